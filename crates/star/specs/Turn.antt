-- The order of directions round a centre, counterclockwise from the direction of the positive x axis. (Textbook.)
use Rattle.std.specs.Prelude.{◌≡◌, ℕ, ◌⊎◌, List, pos, ◌<ℤ◌}
use Rattle.plane.specs.declared.coordinates.Point.{Point}
use Rattle.plane.specs.Geometry.{point, area}

-- seen from c, the point q is above, or level on the right
abbrev pub IsUpper : (c q : Point) → Type 0
IsUpper c q = (c.y <ℤ q.y) ⊎ ((q.y ≡ c.y) × (c.x <ℤ q.x))

-- seen from c, the point q is below, or level on the left
abbrev pub IsLower : (c q : Point) → Type 0
IsLower c q = (q.y <ℤ c.y) ⊎ ((q.y ≡ c.y) × (q.x <ℤ c.x))

-- q and r are in the same half of the directions from c
abbrev pub AreInOneHalf : (c q r : Point) → Type 0
AreInOneHalf c q r = (IsUpper c q × IsUpper c r) ⊎ (IsLower c q × IsLower c r)

-- the direction from c to q comes before that to r: the upper half before the lower, and within a half by orientation
abbrev pub TurnsBefore : (c q r : Point) → Type 0
TurnsBefore c q r = (IsUpper c q × IsLower c r) ⊎ (AreInOneHalf c q r × (pos 0 <ℤ area c q r))

-- the directions from c to q and r are one
abbrev pub PointTogether : (c q r : Point) → Type 0
PointTogether c q r = AreInOneHalf c q r × (area c q r ≡ pos 0)

abbrev pub IsBeforeInTurn : List Point → (c q r : ℕ) → Type 0
IsBeforeInTurn S c q r = TurnsBefore (point S c) (point S q) (point S r)

abbrev pub IsInDirection : List Point → (c q r : ℕ) → Type 0
IsInDirection S c q r = PointTogether (point S c) (point S q) (point S r)
