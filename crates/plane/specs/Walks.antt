-- For private clauses.
-- Words of the walks that look for the next point on the border.
use Rattle.std.specs.Prelude.{ℕ, ◌⊎◌, List, ℤ, pos, ◌<ℤ◌}
use Rattle.plane.specs.declared.coordinates.Point.{Point}
use Rattle.plane.specs.declared.coordinates.Turn.{Turn}
use Rattle.plane.specs.declared.coordinates.Turn.TheVariants.{Left, Straight, Right}
use Rattle.plane.specs.Geometry.{orientation, IsBetween}
use Rattle.plane.specs.Hull.{IsBorderStep}

-- an orientation shows a point strictly on the other side
abbrev pub IsBeyond : Turn → ℤ → Type 0
IsBeyond Left z = z <ℤ pos 0
IsBeyond Straight z = ⊥
IsBeyond Right z = pos 0 <ℤ z

-- seen from v, r is further out than b on the way to the border: strictly beyond the line, or nearer on it
abbrev pub IsFurther : List Point → Turn → (v b r : ℕ) → Type 0
IsFurther S side v b r = IsBeyond side (orientation S v b r) ⊎ IsBetween S r v b

-- v is strictly inside the triangle a b c, whose corners stand counterclockwise
abbrev pub IsStrictlyInTriangle : List Point → (v a b c : ℕ) → Type 0
IsStrictlyInTriangle S v a b c = (pos 0 <ℤ orientation S a b v) × (pos 0 <ℤ orientation S b c v) × (pos 0 <ℤ orientation S c a v)

-- no border step begins at v, on neither side
abbrev pub HasNoStep : List Point → ℕ → Type 0
HasNoStep S v = (side : Turn) (w : ℕ) → ¬ IsBorderStep S side v w
