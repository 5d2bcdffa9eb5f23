-- For private clauses.
-- The corner of a box that is furthest right of a line.
use Rattle.std.specs.Prelude.{◌≤ℤ◌}
use Rattle.plane.specs.declared.coordinates.Point.{Point}
use Rattle.plane.specs.Geometry.{area}
use Rattle.boxes.specs.declared.bounds.Bounds.{Bounds}
use Rattle.boxes.specs.Bounds.{IsWithin}

-- no point of the box is further right of the line from p to q than r
abbrev pub IsRightmost : Bounds → (p q r : Point) → Type 0
IsRightmost b p q r = (s : Point) → IsWithin b s → area p q r ≤ℤ area p q s
