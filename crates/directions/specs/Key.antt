-- For private clauses.
-- Numbers that tell directions apart. (This project's own.)
use Rattle.std.specs.Prelude.{ℕ, ◌+◌, ◌*◌, ◌/◌, List, unsigned_abs, ◌-ℤ◌}
use Rattle.plane.specs.declared.coordinates.Point.{Point}
use Rattle.plane.specs.Geometry.{point}

-- how far a direction is through its quarter, in parts of 2^31: x is the step along the quarter's first side, y that along
-- its last
unfoldable pub share : (x y : ℕ) → ℕ
share x y = (y * 2147483648) / (x + y)

-- the sizes of the steps from c to q
abbrev pub across : (c q : Point) → ℕ
across c q = unsigned_abs (q.x -ℤ c.x)

abbrev pub upward : (c q : Point) → ℕ
upward c q = unsigned_abs (q.y -ℤ c.y)

-- the key of the line through p and q, seen from p
abbrev pub line_key : List Point → (p q : ℕ) → ℕ
line_key S p q = share (across (point S p) (point S q)) (upward (point S p) (point S q))
