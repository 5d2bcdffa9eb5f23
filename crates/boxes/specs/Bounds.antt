-- Boxes with sides along the axes, by their lower left and their upper right corners. (This project's own.)
use Rattle.std.specs.Prelude.{◌≡◌, ◌⊎◌, ◌<ℤ◌, ◌≤ℤ◌}
use Rattle.std.specs.Int.{int_min, int_max}
use Rattle.plane.specs.declared.coordinates.Point.{Point}
use Rattle.plane.specs.Accepted.{IsNear}
use Rattle.boxes.specs.declared.bounds.Bounds.{Bounds}

-- the box has p
abbrev pub IsWithin : Bounds → Point → Type 0
IsWithin b p = (b.low.x ≤ℤ p.x) × (p.x ≤ℤ b.high.x) × (b.low.y ≤ℤ p.y) × (p.y ≤ℤ b.high.y)

-- l is the lower left corner of the box round p and q, and u the upper right one
abbrev pub IsLowerLeft : (l p q : Point) → Type 0
IsLowerLeft l p q = (l.x ≡ int_min p.x q.x) × (l.y ≡ int_min p.y q.y)

abbrev pub IsUpperRight : (u p q : Point) → Type 0
IsUpperRight u p q = (u.x ≡ int_max p.x q.x) × (u.y ≡ int_max p.y q.y)

-- both corners are within the limit of coordinates
abbrev pub HasNearCorners : Bounds → Type 0
HasNearCorners b = IsNear b.low × IsNear b.high

-- all x of the box are less than those of p and q, or all are greater; or all y are
abbrev pub IsOutOfRange : Bounds → (p q : Point) → Type 0
IsOutOfRange b p q =
    (((b.high.x <ℤ p.x) × (b.high.x <ℤ q.x)) ⊎ ((p.x <ℤ b.low.x) × (q.x <ℤ b.low.x)))
    ⊎ (((b.high.y <ℤ p.y) × (b.high.y <ℤ q.y)) ⊎ ((p.y <ℤ b.low.y) × (q.y <ℤ b.low.y)))
