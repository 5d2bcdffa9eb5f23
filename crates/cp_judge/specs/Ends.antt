-- For private clauses.
-- The ends of the segments at a point, and the needs that are met among them.
use Rattle.std.specs.Prelude.{◌≡◌, ◌≢◌, ℕ, ◌<◌, ◌||◌, ◌==◌, ◌↔◌, List, length, Option, Some, None}
use Rattle.std.specs.List.{All, Contains, count_by}
use Rattle.plane.specs.declared.coordinates.Point.{Point}
use Rattle.plane.specs.declared.segment.Pair.{Pair}
use Rattle.plane.specs.Geometry.{IsInNeed}
use Rattle.partition_defs.specs.Partition.{HasEnds, Joins}

-- the other end of a segment at p, or none where it isn't at p
abbrev pub IsOtherEnd : Pair → ℕ → Option ℕ → Type 0
IsOtherEnd e p None = (r : ℕ) → ¬ HasEnds e p r
IsOtherEnd e p (Some r) = (s : ℕ) → HasEnds e p s ↔ (s ≡ r)

-- E has exactly the points that are joined with p
abbrev pub AreEnds : List Pair → ℕ → List ℕ → Type 0
AreEnds K p E = (r : ℕ) → Contains E r ↔ Joins K p r

-- how many segments are at p
abbrev pub count_at : List Pair → ℕ → ℕ
count_at K p = count_by (λ e. (e.lo == p) || (e.hi == p)) K

-- all of E are points of S other than p
abbrev pub AreOthers : List Point → ℕ → List ℕ → Type 0
AreOthers S p E = All (λ r. (r < length S) × (r ≢ p)) E

-- some point of E is in the need of p for q
abbrev pub IsMetAmong : List Point → List ℕ → (p q : ℕ) → Type 0
IsMetAmong S E p q = (r : ℕ) × Contains E r × IsInNeed S p q r

-- the need of p for each other point is met among E
abbrev pub MeetsNeedsAmong : List Point → List ℕ → ℕ → Type 0
MeetsNeedsAmong S E p = (q : ℕ) → q < length S → q ≢ p → IsMetAmong S E p q

-- q is another point, and the need of p for it isn't met among E
abbrev pub IsUnmetAmong : List Point → List ℕ → (p q : ℕ) → Type 0
IsUnmetAmong S E p q = (q < length S) × (q ≢ p) × ¬ IsMetAmong S E p q
