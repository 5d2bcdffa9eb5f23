-- The next points on the hull's border, either way round. (Textbook.)
use Rattle.std.specs.Prelude.{◌≡◌, ◌≢◌, ℕ, ◌<◌, List, length, Option, Some, None, ℤ, pos, ◌≤ℤ◌}
use Rattle.plane.specs.declared.coordinates.Point.{Point}
use Rattle.plane.specs.declared.coordinates.Turn.{Turn}
use Rattle.plane.specs.declared.coordinates.Turn.TheVariants.{Left, Straight, Right}
use Rattle.plane.specs.Geometry.{orientation, IsClear}

-- an orientation shows a point on this side or on the line
abbrev pub IsOnSide : Turn → ℤ → Type 0
IsOnSide Left z = pos 0 ≤ℤ z
IsOnSide Straight z = z ≡ pos 0
IsOnSide Right z = z ≤ℤ pos 0

-- The pair v-w is clear, and all points are on this side of the line from v to w or on it: with the left side, w is the next
-- point on the border counterclockwise, and with the right side clockwise.
pub record IsBorderStep (S : List Point) (side : Turn) (v w : ℕ) : Type 0 where
  pub within : w < length S
  pub apart : w ≢ v
  pub clear : IsClear S v w
  pub all : (k : ℕ) → k < length S → IsOnSide side (orientation S v w k)

-- the step from v, or none where there is none
abbrev pub IsStepOrNone : List Point → Turn → ℕ → Option ℕ → Type 0
IsStepOrNone S side v None = (w : ℕ) → ¬ IsBorderStep S side v w
IsStepOrNone S side v (Some w) = IsBorderStep S side v w
