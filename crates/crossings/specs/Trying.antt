-- For private clauses.
-- What is known while the positions of a list are tried.
use Rattle.std.specs.Prelude.{◌≡◌, ℕ, ◌<◌, ◌⊎◌, List, length}
use Rattle.plane.specs.declared.coordinates.Point.{Point}
use Rattle.plane.specs.declared.segment.Pair.{Pair}
use Rattle.plane.specs.First.{ComesBefore}
use Rattle.plane.specs.Accepted.{IsNear}
use Rattle.crossings.specs.declared.segments.Segment.{Segment}
use Rattle.crossings.specs.Crossings.{CrossesLater}
use Rattle.crossings.specs.Segments.{segment}

-- both ends of each segment are within the limit
abbrev pub AreNearSegments : List Segment → Type 0
AreNearSegments Z = (k : ℕ) → k < length Z → IsNear (segment Z k).from × IsNear (segment Z k).to

-- the pair at position a crosses none of the later ones whose segments have an index for which H holds
abbrev pub CrossesNone : (ℕ → Type 0) → List Point → List Pair → List Segment → ℕ → Type 0
CrossesNone H S K Z a = (k : ℕ) → H k → k < length Z → ¬ CrossesLater S K a (segment Z k).place

-- the segment at position i crosses that at the later position j, and i, j comes before a, b
abbrev pub CrossesBefore : List Point → List Pair → (a b : ℕ) → (i j : ℕ) → Type 0
CrossesBefore S K a b i j = ComesBefore i j a b × CrossesLater S K i j

-- the pairs have an end in common
abbrev pub HaveCommonEnd : (e f : Pair) → Type 0
HaveCommonEnd e f = ((e.lo ≡ f.lo) ⊎ (e.lo ≡ f.hi)) ⊎ ((e.hi ≡ f.lo) ⊎ (e.hi ≡ f.hi))
