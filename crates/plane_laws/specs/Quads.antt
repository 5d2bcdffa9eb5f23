-- Four points a, b, c, d: the diagonal a-b with the triangle a b c on its left and b a d on its right. (Textbook.)
use Rattle.std.specs.Prelude.{◌≡◌, ℕ, ◌⊎◌, List, pos, ◌<ℤ◌}
use Rattle.plane.specs.declared.coordinates.Point.{Point}
use Rattle.plane.specs.Geometry.{orientation, AreCrossing, IsEmptyTriangle}

-- i and j are the ends a and b, either way round
abbrev pub AreEnds : (a b i j : ℕ) → Type 0
AreEnds a b i j = ((i ≡ a) × (j ≡ b)) ⊎ ((i ≡ b) × (j ≡ a))

-- the two triangles have no further point, and a and b are strictly on the two sides of the line from c to d, so the
-- quadrilateral a d b c is strictly convex
pub record IsConvexQuad (S : List Point) (a b c d : ℕ) : Type 0 where
  pub left : pos 0 <ℤ orientation S a b c
  pub right : pos 0 <ℤ orientation S b a d
  pub first_side : orientation S c d a <ℤ pos 0
  pub second_side : pos 0 <ℤ orientation S c d b
  pub left_empty : IsEmptyTriangle S a b c
  pub right_empty : IsEmptyTriangle S b a d

-- the pair u-v crosses one of the four sides
abbrev pub CrossesSide : List Point → (a b c d u v : ℕ) → Type 0
CrossesSide S a b c d u v =
    (AreCrossing S a c u v ⊎ AreCrossing S b c u v) ⊎ (AreCrossing S a d u v ⊎ AreCrossing S b d u v)
