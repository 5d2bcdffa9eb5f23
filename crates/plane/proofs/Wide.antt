-- Sums and differences of 128-bit numbers of which neither comes near the type's end.
use Rattle.std.proofs.Common.{◌≡◌, ℤ, ◌+ℤ◌, ◌-ℤ◌, ◌*ℤ◌, ◌<◌, ◌^◌, unsigned_abs, FitsSigned, to_z, of_z, arith, ap, ◌∙◌, ◌↔◌, Bool, IsTrue}
use Rattle.plane.specs.Geometry.{area, scalar, AreOpposite}
use Rattle.plane.specs.declared.coordinates.Point.{Point}
use Rattle.std.proofs.lemmas.Int.{ints, to_z-of_z}
use mir.Syntax.{w64, w128}
use mir.Val.{SFits}

pub difference_fits : (a b : ℤ) → unsigned_abs a < 2 ^ 126 → unsigned_abs b < 2 ^ 126 → FitsSigned w128 (to_z w128 (of_z w128 a) -ℤ to_z w128 (of_z w128 b))
difference_fits a b ha hb = omega (arith, ints)

pub difference_is : (a b : ℤ) → unsigned_abs a < 2 ^ 126 → unsigned_abs b < 2 ^ 126 → to_z w128 (of_z w128 (to_z w128 (of_z w128 a) -ℤ to_z w128 (of_z w128 b))) ≡ a -ℤ b
difference_is a b ha hb = omega (arith, ints)

pub sum_is : (a b : ℤ) → unsigned_abs a < 2 ^ 126 → unsigned_abs b < 2 ^ 126 → to_z w128 (of_z w128 (to_z w128 (of_z w128 a) +ℤ to_z w128 (of_z w128 b))) ≡ a +ℤ b
sum_is a b ha hb = omega (arith, ints)

-- a difference of two 64-bit numbers, as calls show it
plain_difference : (s a b : ℤ) → unsigned_abs a < 2 ^ 62 → unsigned_abs b < 2 ^ 62 → s ≡ to_z w64 (of_z w64 a) -ℤ to_z w64 (of_z w64 b) → s ≡ a -ℤ b
plain_difference s a b ha hb h = omega (arith, ints)

plain : (a : ℤ) → unsigned_abs a < 2 ^ 63 → to_z w64 (of_z w64 a) ≡ a
plain a h = omega (arith, ints)

-- a product of two such differences
pub plain_product : (m s t a b d e : ℤ) → unsigned_abs a < 2 ^ 62 → unsigned_abs b < 2 ^ 62 → unsigned_abs d < 2 ^ 62 → unsigned_abs e < 2 ^ 62 → unsigned_abs s < 2 ^ 63 → unsigned_abs t < 2 ^ 63 → s ≡ to_z w64 (of_z w64 a) -ℤ to_z w64 (of_z w64 b) → t ≡ to_z w64 (of_z w64 d) -ℤ to_z w64 (of_z w64 e) → m ≡ to_z w64 (of_z w64 s) *ℤ to_z w64 (of_z w64 t) → m ≡ (a -ℤ b) *ℤ (d -ℤ e)
plain_product m s t a b d e ha hb hd he hs ht es et em =
    em ∙ ap (λ x. x *ℤ to_z w64 (of_z w64 t)) (plain s hs ∙ plain_difference s a b ha hb es) ∙ ap (λ x. (a -ℤ b) *ℤ x) (plain t ht ∙ plain_difference t d e hd he et)

-- an area from its two products
pub area_is : (p q r : Point) (m n : ℤ) → m ≡ (q.x -ℤ p.x) *ℤ (r.y -ℤ p.y) → n ≡ (q.y -ℤ p.y) *ℤ (r.x -ℤ p.x) → m -ℤ n ≡ area p q r
unfolding area
area_is p q r m n hm hn = ap (λ x. x -ℤ n) hm ∙ ap (λ y. (q.x -ℤ p.x) *ℤ (r.y -ℤ p.y) -ℤ y) hn

-- a scalar product from its two products
pub scalar_is : (p q r : Point) (m n : ℤ) → m ≡ (q.x -ℤ p.x) *ℤ (r.x -ℤ p.x) → n ≡ (q.y -ℤ p.y) *ℤ (r.y -ℤ p.y) → m +ℤ n ≡ scalar p q r
unfolding scalar
scalar_is p q r m n hm hn = ap (λ x. x +ℤ n) hm ∙ ap (λ y. (q.x -ℤ p.x) *ℤ (r.x -ℤ p.x) +ℤ y) hn

-- what a call shows of 128-bit numbers and their signs, said of the numbers themselves
pub plain_opposite : (r : Bool) (y z m n : ℤ) → SFits w128 y → SFits w128 z → y ≡ m → z ≡ n → (IsTrue r ↔ AreOpposite (to_z w128 (of_z w128 y)) (to_z w128 (of_z w128 z))) → IsTrue r ↔ AreOpposite m n
plain_opposite r y z m n fy fz ey ez h = rw (← ey, ← ez) (rw (to_z-of_z w128 y fy, to_z-of_z w128 z fz) at h)
