-- How a list of segments fails to be a convex partition: each kind's first case, with what it shows. (This project's own
-- order.)
use Rattle.std.specs.Prelude.{◌≢◌, ℕ, ◌<◌, List, length}
use Rattle.plane.specs.declared.coordinates.Point.{Point}
use Rattle.plane.specs.declared.segment.Pair.{Pair}
use Rattle.plane.specs.First.{IsLeast, IsFirstPair}
use Rattle.plane.specs.Geometry.{IsBetween, IsBorderPair, IsInner}
use Rattle.partition_defs.specs.Partition.{Joins, IsMet}
use Rattle.crossings.specs.Crossings.{IsPairAt, DoCrossAt}

-- the pair at position k stands at an earlier one too
abbrev pub IsRepeatedAt : List Pair → ℕ → Type 0
IsRepeatedAt K k = (e : Pair) × (j : ℕ) × (j < k) × IsPairAt K j e × IsPairAt K k e

-- e is the first pair of the list that stood in it before
abbrev pub IsDoubled : List Pair → Pair → Type 0
IsDoubled K e = (k : ℕ) × IsPairAt K k e × IsLeast (IsRepeatedAt K) (length K) k

-- the pair at position k has a point strictly between its ends
abbrev pub IsUnclearAt : List Point → List Pair → ℕ → Type 0
IsUnclearAt S K k = (e : Pair) × (p : ℕ) × IsPairAt K k e × (p < length S) × IsBetween S p e.lo e.hi

-- e is the first pair that isn't clear, and p the least point between its ends
abbrev pub IsNotClear : List Point → List Pair → Pair → ℕ → Type 0
IsNotClear S K e p =
    (k : ℕ) × IsPairAt K k e × IsLeast (IsUnclearAt S K) (length K) k × IsLeast (λ q. IsBetween S q e.lo e.hi) (length S) p

-- e and f are the pairs at the first two positions whose pairs cross
abbrev pub IsCrossing : List Point → List Pair → (e f : Pair) → Type 0
IsCrossing S K e f =
    (a : ℕ) × (b : ℕ) × IsPairAt K a e × IsPairAt K b f × IsFirstPair (DoCrossAt S K) (length K) a b

-- i-j is a border pair that isn't in the set
abbrev pub IsMissing : List Point → List Pair → (i j : ℕ) → Type 0
IsMissing S K i j = IsBorderPair S i j × ¬ Joins K i j

-- e is the least border pair that isn't in the set
abbrev pub IsMissingBorder : List Point → List Pair → Pair → Type 0
IsMissingBorder S K e = IsFirstPair (IsMissing S K) (length S) e.lo e.hi

-- the need of p for another point q isn't met
abbrev pub IsUnmetAt : List Point → List Pair → (p q : ℕ) → Type 0
IsUnmetAt S K p q = (q ≢ p) × ¬ IsMet S K p q

-- p is an inner point, and some need of it isn't met
abbrev pub HasUnmet : List Point → List Pair → ℕ → Type 0
HasUnmet S K p = IsInner S p × ((q : ℕ) × (q < length S) × IsUnmetAt S K p q)

-- p is the least inner point with a need that isn't met, and q the least point for which it isn't
abbrev pub IsUnmet : List Point → List Pair → (p q : ℕ) → Type 0
IsUnmet S K p q = IsLeast (HasUnmet S K) (length S) p × IsLeast (IsUnmetAt S K p) (length S) q
