-- For private clauses.
-- Boxes with sides along the axes, by which many tests are settled without an area.
use Rattle.std.specs.Prelude.{◌≡◌, ℤ, ◌≤ℤ◌}
use Rattle.std.specs.Int.{int_min, int_max}
use Rattle.plane.specs.declared.coordinates.Point.{Point}
use Rattle.plane.specs.declared.bounding_box.Interval.{Interval}
use Rattle.plane.specs.declared.bounding_box.BoundingBox.{BoundingBox}

-- the interval between two numbers, whichever is the lesser
abbrev pub IsIntervalOf : Interval → (a b : ℤ) → Type 0
IsIntervalOf i a b = (i.least ≡ int_min a b) × (i.greatest ≡ int_max a b)

-- the least box that has two points
abbrev pub IsBoxOf : BoundingBox → (p q : Point) → Type 0
IsBoxOf b p q = IsIntervalOf b.across p.x q.x × IsIntervalOf b.upward p.y q.y

-- a number is in an interval, its ends included
abbrev pub IsInInterval : Interval → ℤ → Type 0
IsInInterval i a = (i.least ≤ℤ a) × (a ≤ℤ i.greatest)

-- a point is in a box or on its sides
abbrev pub IsInBox : BoundingBox → Point → Type 0
IsInBox b p = IsInInterval b.across p.x × IsInInterval b.upward p.y

-- two intervals have a number in common
abbrev pub DoOverlap : (i j : Interval) → Type 0
DoOverlap i j = (i.least ≤ℤ j.greatest) × (j.least ≤ℤ i.greatest)

-- two boxes have a point in common
abbrev pub DoMeet : (b c : BoundingBox) → Type 0
DoMeet b c = DoOverlap b.across c.across × DoOverlap b.upward c.upward
