-- Convex partitions of a point set, over membership of segments. (The challenge's condition, told by needs.)
use Rattle.std.specs.Prelude.{◌≡◌, ◌≢◌, ℕ, ◌<◌, ◌⊎◌, List, length}
use Rattle.std.specs.List.{Any, Contains}
use Rattle.plane.specs.declared.coordinates.Point.{Point}
use Rattle.plane.specs.declared.segment.Pair.{Pair}
use Rattle.plane.specs.Geometry.{IsClear, AreCrossing, IsBorderPair, IsInner, IsInNeed}

-- the segment has the ends i and j, either way round
abbrev pub HasEnds : Pair → (i j : ℕ) → Type 0
HasEnds e i j = ((e.lo ≡ i) × (e.hi ≡ j)) ⊎ ((e.lo ≡ j) × (e.hi ≡ i))

-- the segment i-j is in the set
abbrev pub Joins : List Pair → (i j : ℕ) → Type 0
Joins K i j = Any (λ e. HasEnds e i j) K

-- all ends are indices of points
abbrev pub AreWithin : List Point → List Pair → Type 0
AreWithin S K = (e : Pair) → Contains K e → e.hi < length S

abbrev pub AreClear : List Point → List Pair → Type 0
AreClear S K = (e : Pair) → Contains K e → IsClear S e.lo e.hi

-- the segment crosses none of them
abbrev pub CrossesNone : List Point → List Pair → Pair → Type 0
CrossesNone S K e = (f : Pair) → Contains K f → ¬ AreCrossing S e.lo e.hi f.lo f.hi

-- no two segments cross
abbrev pub ArePlane : List Point → List Pair → Type 0
ArePlane S K = (e f : Pair) → Contains K e → Contains K f → ¬ AreCrossing S e.lo e.hi f.lo f.hi

-- each border pair with i as its smaller index is in the set
abbrev pub HasBorderFrom : List Point → List Pair → ℕ → Type 0
HasBorderFrom S K i = (j : ℕ) → i < j → j < length S → IsBorderPair S i j → Joins K i j

abbrev pub HasBorder : List Point → List Pair → Type 0
HasBorder S K = (i : ℕ) → HasBorderFrom S K i

-- some segment at p has its other end in the need of p for q
abbrev pub IsMet : List Point → List Pair → (p q : ℕ) → Type 0
IsMet S K p q = (r : ℕ) × (r < length S) × Joins K p r × IsInNeed S p q r

-- all needs of p are met
abbrev pub MeetsNeedsAt : List Point → List Pair → ℕ → Type 0
MeetsNeedsAt S K p = (q : ℕ) → q < length S → q ≢ p → IsMet S K p q

abbrev pub MeetsNeeds : List Point → List Pair → Type 0
MeetsNeeds S K = (p : ℕ) → p < length S → IsInner S p → MeetsNeedsAt S K p

-- a convex partition
pub record IsConvexPartition (S : List Point) (K : List Pair) : Type 0 where
  pub within : AreWithin S K
  pub clear : AreClear S K
  pub plane : ArePlane S K
  pub border : HasBorder S K
  pub needs : MeetsNeeds S K
