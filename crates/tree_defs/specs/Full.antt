-- The branch tree of the plain search. (This project's own.)
use Rattle.std.specs.Prelude.{◌≢◌, ℕ, ◌<◌, ◌≤◌, ◌⊎◌, List, length}
use Rattle.std.specs.List.{Contains}
use Rattle.plane.specs.declared.coordinates.Point.{Point}
use Rattle.plane.specs.declared.segment.Pair.{Pair}
use Rattle.plane.specs.First.{IsLeast, IsFirstPair}
use Rattle.plane.specs.Geometry.{IsClear, AreCrossing, IsBorderPair, IsInner}
use Rattle.partition_defs.specs.Partition.{IsMet, ArePlane, MeetsNeeds}
use Rattle.price_defs.specs.declared.row.Row.TheVariants.{Half}
use Rattle.price_defs.specs.declared.row.Certificate.{Certificate}
use Rattle.cost_defs.specs.Costs.{Costed, total}
use Rattle.price_defs.specs.Rows.{Counts}
use Rattle.price_defs.specs.Raising.{IsRaisedFloor}
use Rattle.tree_defs.specs.Leaves.{Sets, IsLost, IsStarved, IsLeafValue}
use Rattle.tree_defs.specs.Trees.{Tree, Bare, Fork, root, taking, barring}

-- taken segments of points, clear, that don't cross
pub record IsSound (S : List Point) (A : List Pair) : Type 0 where
  pub inside : (e : Pair) → Contains A e → e.hi < length S
  pub clear : (e : Pair) → Contains A e → IsClear S e.lo e.hi
  pub plane : ArePlane S A

-- two taken segments cross, or a border pair is barred, or a need can't be met
abbrev pub HasContradiction : List Point → Sets → Type 0
HasContradiction S s =
    ((e f : Pair) × Contains s.taken e × Contains s.taken f × AreCrossing S e.lo e.hi f.lo f.hi)
    ⊎ (((e : Pair) × Contains s.barred e × IsBorderPair S e.lo e.hi)
    ⊎ ((p q : ℕ) × IsStarved S s p q))

-- the taken segments don't meet the need of p for q
abbrev pub IsUnmet : List Point → List Pair → (p q : ℕ) → Type 0
IsUnmet S A p q = (q ≢ p) × ¬ IsMet S A p q

-- p is the least inner point with a need that isn't met, and q the least point with which it is so
pub record IsFirstUnmet (S : List Point) (A : List Pair) (p q : ℕ) : Type 0 where
  pub point : IsLeast (λ x. IsInner S x × ((y : ℕ) × (y < length S) × IsUnmet S A x y)) (length S) p
  pub need : IsLeast (IsUnmet S A p) (length S) q

-- i-j is a clear segment from p into the need for q, and isn't lost
abbrev pub IsCandidate : List Point → Sets → (p q i j : ℕ) → Type 0
IsCandidate S s p q i j = IsClear S i j × Counts S (Half p q 0) i j × ¬ IsLost S s i j

-- the least candidate
abbrev pub IsNamed : List Point → Sets → (p q : ℕ) → Pair → Type 0
IsNamed S s p q e = IsFirstPair (IsCandidate S s p q) (length S) e.lo e.hi

-- where the search ends: at a contradiction, where all needs are met, and where the given prices show limit
abbrev pub IsFullEnd : List Point → List Costed → (h limit : ℕ) → Certificate → Sets → Type 0
IsFullEnd S D h limit c s = HasContradiction S s ⊎ (MeetsNeeds S s.taken ⊎ ((v : ℕ) × IsLeafValue S D h (record { sets = s; prices = c }) v × (limit ≤ v)))

-- the branch tree of the search; what stands in its leaves isn't said
abbrev pub IsFullBelow : List Point → List Costed → (h limit : ℕ) → Certificate → Sets → Tree → Type 0
IsFullBelow S D h limit c s (Bare x) = IsFullEnd S D h limit c s
IsFullBelow S D h limit c s (Fork e t u) =
    (¬ IsFullEnd S D h limit c s) × ((p q : ℕ) × IsFirstUnmet S s.taken p q × IsNamed S s p q e)
    × IsFullBelow S D h limit c (taking s e) t × IsFullBelow S D h limit c (barring s e) u

-- the branch tree of the search with the raised floor certificate, where first is known
abbrev pub IsFull : List Point → List Costed → ℕ → List Pair → Tree → Type 0
IsFull S D h first t = (c : Certificate) × IsRaisedFloor S D c.q c.rows × IsFullBelow S D h (total D first) c root t
