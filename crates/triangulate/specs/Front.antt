-- For private clauses.
-- The sweep's front: the pairs so far, and the lower and the upper chain of the border, each as its last point and the ones before.
use Rattle.std.specs.Prelude.{◌≡◌, ◌≢◌, ℕ, ℤ, pos, ◌<◌, ◌⊎◌, ◌<ℤ◌, ◌≤ℤ◌, List, [], ◌∷◌}
use Rattle.triangulate.specs.Sides.{Sight, UpTo, AllLeft, Clear, Beyond, Cross, Empty}

-- p and q are neighbours in the chain with the last point t and the points r before it
abbrev pub Links : (t : ℕ) → List ℕ → (p q : ℕ) → Type 0
Links t [] p q = ⊥
Links t (s ∷ r) p q = ((p ≡ s) × (q ≡ t)) ⊎ Links s r p q

-- a to b is a side of the border of the points with Q
pub record Side (V : Sight) (J : ℕ → ℕ → Type 0) (Q : ℕ → Type 0) (a b : ℕ) : Type 0 where
  pub a_in : a < V.count
  pub b_in : b < V.count
  pub before : V.Before a b
  pub b_seen : Q b
  pub joined : J a b
  pub left : AllLeft V Q a b
  pub clear : Clear V a b

-- some side has i from its first point on and before its second
pub record Covered (B : ℕ → ℕ → Type 0) (t : ℕ) (r : List ℕ) (i : ℕ) : Type 0 where
  pub a : ℕ
  pub b : ℕ
  pub link : Links t r a b
  pub from : UpTo B a i
  pub before : B i b

pub record Chain (V : Sight) (J : ℕ → ℕ → Type 0) (Q : ℕ → Type 0) (t : ℕ) (r : List ℕ) : Type 0 where
  pub sides : (a b : ℕ) → Links t r a b → Side V J Q a b
  pub covers : (i : ℕ) → i < V.count → V.Before i t → Covered V.Before t r i

-- a chain whose last point is joined to the new point z
pub record Reach (V : Sight) (J : ℕ → ℕ → Type 0) (t : ℕ) (r : List ℕ) (z : ℕ) : Type 0 where
  pub chain : Chain V J (λ s. V.Before s z) t r
  pub top_in : t < V.count
  pub top_before : V.Before t z
  pub joined : J t z
  pub beyond : Beyond V t z

-- p to q is a sweep pair, p coming before q
pub record Sweeps (V : Sight) (p q : ℕ) : Type 0 where
  pub clear : Clear V p q
  pub alone : (k l : ℕ) → k < V.count → l < V.count → V.Before k q → V.Before l q → ¬ Cross V.sign p q k l

pub record Apex (V : Sight) (J : ℕ → ℕ → Type 0) (p q : ℕ) : Type 0 where
  pub r : ℕ
  pub r_in : r < V.count
  pub first : J p r
  pub second : J q r
  pub left : pos 0 <ℤ V.sign p q r
  pub empty : Empty V p q r

-- what stands of all the pairs of points up to z
pub record Pairs (V : Sight) (J : ℕ → ℕ → Type 0) (z : ℕ) : Type 0 where
  pub in_first : (p q : ℕ) → J p q → p < V.count
  pub up_to : (p q : ℕ) → J p q → UpTo V.Before p z
  pub back : (p q : ℕ) → J p q → J q p
  pub differ : (p q : ℕ) → J p q → p ≢ q
  pub sweeps : (p q : ℕ) → J p q → V.Before p q → Sweeps V p q

-- each point up to z that has an earlier point is joined to some point
abbrev pub Met : (n : ℕ) (B : ℕ → ℕ → Type 0) (J : ℕ → ℕ → Type 0) (z : ℕ) → Type 0
Met n B J z = (s u : ℕ) → s < n → UpTo B s z → u < n → B u s → (q : ℕ) × J s q

-- a pair with z was joined from the lower or from the upper chain
pub record From (V : Sight) (t s z last : ℕ) : Type 0 where
  pub from : UpTo V.Before t s
  pub side : pos 0 ≤ℤ V.sign s z last

-- a chain: its last point, and those before it, the later first
pub record Strand : Type 0 where
  pub top : ℕ
  pub rest : List ℕ

abbrev pub strand : (t : ℕ) (r : List ℕ) → Strand
strand t r = record { top = t; rest = r }

-- while the new point z is joined
pub record Joining (V W : Sight) (J : ℕ → ℕ → Type 0) (low high : Strand) (z last : ℕ) : Type 0 where
  pub z_in : z < V.count
  pub last_in : last < V.count
  pub last_before : V.Before last z
  pub last_next : (s : ℕ) → s < V.count → V.Before s z → UpTo V.Before s last
  pub lower : Reach V J low.top low.rest z
  pub upper : Reach W J high.top high.rest z
  pub pairs : Pairs V J z
  pub met : Met V.count V.Before J z
  pub apex : (p q : ℕ) → J p q → Apex V J p q ⊎ (Links z (low.top ∷ low.rest) q p ⊎ Links z (high.top ∷ high.rest) p q)
  pub older : (i j : ℕ) → i < V.count → j < V.count → V.Before i j → V.Before j z → Sweeps V i j → J i j
  pub sees : (i : ℕ) → i < V.count → V.Before i z → Sweeps V i z → J i z ⊎ ((V.sign low.top z i <ℤ pos 0) ⊎ (W.sign high.top z i <ℤ pos 0))
  pub fresh : (s : ℕ) → J s z → From V low.top s z last ⊎ From W high.top s z last

-- between two points: z is the last point, and the end of both chains
pub record Whole (V W : Sight) (J : ℕ → ℕ → Type 0) (r r2 : List ℕ) (z : ℕ) : Type 0 where
  pub z_in : z < V.count
  pub lower : Chain V J (λ s. UpTo V.Before s z) z r
  pub upper : Chain W J (λ s. UpTo V.Before s z) z r2
  pub pairs : Pairs V J z
  pub met : Met V.count V.Before J z
  pub apex : (p q : ℕ) → J p q → Apex V J p q ⊎ (Links z r q p ⊎ Links z r2 p q)
  pub whole : (i j : ℕ) → i < V.count → j < V.count → V.Before i j → UpTo V.Before j z → Sweeps V i j → J i j

-- z isn't right of the chain's last side
abbrev pub Settled : (o : ℕ → ℕ → ℕ → ℤ) (t : ℕ) (r : List ℕ) (z : ℕ) → Type 0
Settled o t [] z = Unit {0}
Settled o t (c ∷ r) z = pos 0 ≤ℤ o c t z
