-- The order of points by x, then by y, and what the orientations of four points in this order have to do with one another.
use Rattle.std.specs.Prelude.{◌≡◌, ℕ, List, ℤ, pos, ◌+ℤ◌, ◌<ℤ◌, ◌≤ℤ◌, ◌⊎◌}
use Rattle.plane.specs.declared.coordinates.Point.{Point}
use Rattle.plane.specs.Geometry.{point, orientation}

-- p comes before q by x, then by y
abbrev pub IsBefore : (p q : Point) → Type 0
IsBefore p q = (p.x <ℤ q.x) ⊎ ((p.x ≡ q.x) × (p.y <ℤ q.y))

-- The orientations a, b, c, d of the first, second and third, of the first, second and fourth, of the first, third and
-- fourth, and of the last three of four points in this order. (Textbook: slopes of steps to the right are ordered.)
pub record AreInOrder (a b c d : ℤ) : Type 0 where
  pub sum : a +ℤ c ≡ b +ℤ d
  pub rises : pos 0 ≤ℤ a → pos 0 ≤ℤ d → a ≤ℤ b
  pub rises_first : pos 0 <ℤ a → pos 0 ≤ℤ d → a <ℤ b
  pub rises_last : pos 0 ≤ℤ a → pos 0 <ℤ d → a <ℤ b
  pub falls : a ≤ℤ pos 0 → d ≤ℤ pos 0 → b ≤ℤ a
  pub falls_first : a <ℤ pos 0 → d ≤ℤ pos 0 → b <ℤ a
  pub falls_last : a ≤ℤ pos 0 → d <ℤ pos 0 → b <ℤ a

-- k is in line with p and q, and stands between them in the order by x, then by y
abbrev pub IsAmid : List Point → (k p q : ℕ) → Type 0
IsAmid S k p q = (orientation S p k q ≡ pos 0) × IsBefore (point S p) (point S k) × IsBefore (point S k) (point S q)
