-- What is between two points, by the order of points.
use Rattle.std.proofs.Common.{◌≡◌, ℤ, pos, ◌+ℤ◌, ◌-ℤ◌, ◌*ℤ◌, neg_ℤ, arith, sym, ◌∙◌, refl, ap, inl, inr}
use Rattle.std.specs.Prelude.{◌<ℤ◌}
use Rattle.std.proofs.lemmas.Int.{ints}
use Rattle.plane.specs.declared.coordinates.Point.{Point}
use Rattle.plane.specs.Geometry.{area, scalar}
use Rattle.number_laws.proofs.Products.{mul_neg}
use Rattle.number_laws.proofs.Crosses.{cross}
use Rattle.number_laws.proofs.Signs.{positive_positive, by_sign, cancel_strict, zero_left, zero_right}
use Rattle.plane.proofs.laws.Area.{area_back}
use Rattle.plane_laws.specs.Order.{IsBefore}
use Rattle.plane_laws.proofs.Steps.{Ahead}
use Rattle.plane_laws.proofs.Orientations.{ahead}
use Rattle.number_laws.proofs.Products.{neg_mul, neg_mul_neg}
use Rattle.number_laws.proofs.Crosses.{neg_neg, neg_cross}

-- the scalar product of two steps
unfoldable pub dot : (ax ay bx by : ℤ) → ℤ
dot ax ay bx by = ax *ℤ bx +ℤ ay *ℤ by

dot_both : (ux uy wx wy : ℤ) → pos 0 <ℤ ux → pos 0 <ℤ wx → cross ux uy wx wy ≡ pos 0 → pos 0 <ℤ dot ux uy wx wy
unfolding dot
dot_both ux uy wx wy hu hw h =
    by_sign uy
    (λ s. let t : pos 0 <ℤ (uy *ℤ wx) = positive_positive uy wx s hw in
    let v : pos 0 <ℤ wy = cancel_strict ux wy hu (omega (arith, ints)) in
    omega (arith, ints, positive_positive ux wx hu hw, positive_positive uy wy s v))
    (λ s. omega (arith, ints, positive_positive ux wx hu hw, zero_left uy wy s))
    (λ s. let t : pos 0 <ℤ (neg_ℤ uy *ℤ wx) = positive_positive (neg_ℤ uy) wx (omega (arith, ints)) hw in
    let v : pos 0 <ℤ neg_ℤ wy = cancel_strict ux (neg_ℤ wy) hu (omega (arith, ints, neg_mul uy wx, mul_neg ux wy)) in
    omega (arith, ints, positive_positive ux wx hu hw, positive_positive (neg_ℤ uy) (neg_ℤ wy) (omega (arith, ints)) v, neg_mul_neg uy wy))

dot_ahead : (ux uy wx wy : ℤ) → Ahead ux uy → Ahead wx wy → cross ux uy wx wy ≡ pos 0 → pos 0 <ℤ dot ux uy wx wy
unfolding dot
dot_ahead ux uy wx wy (inl hu) (inl hw) h = dot_both ux uy wx wy hu hw h
dot_ahead ux uy wx wy (inl hu) (inr hw) h = absurd (omega (arith, ints, zero_right uy wx hw.0, positive_positive ux wy hu hw.1))
dot_ahead ux uy wx wy (inr hu) (inl hw) h = absurd (omega (arith, ints, zero_left ux wy hu.0, positive_positive uy wx hu.1 hw))
dot_ahead ux uy wx wy (inr hu) (inr hw) h = omega (arith, ints, zero_left ux wx hu.0, positive_positive uy wy hu.1 hw.1)

pub area_is_cross : (p q r : Point) → area p q r ≡ cross (q.x -ℤ p.x) (q.y -ℤ p.y) (r.x -ℤ p.x) (r.y -ℤ p.y)
unfolding area
area_is_cross p q r = refl

pub scalar_is_dot : (p q r : Point) → scalar p q r ≡ dot (q.x -ℤ p.x) (q.y -ℤ p.y) (r.x -ℤ p.x) (r.y -ℤ p.y)
unfolding scalar dot
scalar_is_dot p q r = refl

turned : (a b : ℤ) → b -ℤ a ≡ neg_ℤ (a -ℤ b)
turned a b = omega (arith, ints)

pub neg_neg_dot : (ax ay bx by : ℤ) → dot (neg_ℤ ax) (neg_ℤ ay) (neg_ℤ bx) (neg_ℤ by) ≡ dot ax ay bx by
unfolding dot
neg_neg_dot ax ay bx by = omega (arith, ints, neg_mul_neg ax bx, neg_mul_neg ay by)

pub neg_dot : (ax ay bx by : ℤ) → dot (neg_ℤ ax) (neg_ℤ ay) bx by ≡ neg_ℤ (dot ax ay bx by)
unfolding dot
neg_dot ax ay bx by = omega (arith, ints, neg_mul ax bx, neg_mul ay by)

step_back : (p q : Point) → IsBefore q p → Ahead (neg_ℤ (q.x -ℤ p.x)) (neg_ℤ (q.y -ℤ p.y))
step_back p q (inl h) = inl (omega (arith, ints))
step_back p q (inr h) = inr (omega (arith, ints, h.0), omega (arith, ints, h.1))

-- a point before both or behind both of two points in line with it isn't between them
scalar_before : (k a z : Point) → IsBefore k a → IsBefore k z → area k a z ≡ pos 0 → pos 0 <ℤ scalar k a z
scalar_before k a z ha hz h =
    rw scalar_is_dot (dot_ahead (a.x -ℤ k.x) (a.y -ℤ k.y) (z.x -ℤ k.x) (z.y -ℤ k.y) (ahead k a ha) (ahead k z hz) (sym (area_is_cross k a z) ∙ h))

scalar_behind : (k a z : Point) → IsBefore a k → IsBefore z k → area k a z ≡ pos 0 → pos 0 <ℤ scalar k a z
scalar_behind k a z ha hz h =
    rw (scalar_is_dot, ← neg_neg_dot (a.x -ℤ k.x) (a.y -ℤ k.y) (z.x -ℤ k.x) (z.y -ℤ k.y))
    (dot_ahead (neg_ℤ (a.x -ℤ k.x)) (neg_ℤ (a.y -ℤ k.y)) (neg_ℤ (z.x -ℤ k.x)) (neg_ℤ (z.y -ℤ k.y)) (step_back k a ha) (step_back k z hz)
    (neg_neg (a.x -ℤ k.x) (a.y -ℤ k.y) (z.x -ℤ k.x) (z.y -ℤ k.y) ∙ sym (area_is_cross k a z) ∙ h))

scalar_amid : (k a z : Point) → IsBefore a k → IsBefore k z → area k a z ≡ pos 0 → scalar k a z <ℤ pos 0
scalar_amid k a z ha hz h =
    let d : pos 0 <ℤ dot (neg_ℤ (a.x -ℤ k.x)) (neg_ℤ (a.y -ℤ k.y)) (z.x -ℤ k.x) (z.y -ℤ k.y) =
    dot_ahead (neg_ℤ (a.x -ℤ k.x)) (neg_ℤ (a.y -ℤ k.y)) (z.x -ℤ k.x) (z.y -ℤ k.y) (step_back k a ha) (ahead k z hz)
    (neg_cross (a.x -ℤ k.x) (a.y -ℤ k.y) (z.x -ℤ k.x) (z.y -ℤ k.y) ∙ ap neg_ℤ (sym (area_is_cross k a z) ∙ h)) in
    omega (arith, ints, neg_dot (a.x -ℤ k.x) (a.y -ℤ k.y) (z.x -ℤ k.x) (z.y -ℤ k.y), scalar_is_dot k a z)

scalar_at_first : (k a z : Point) → k.x ≡ a.x → k.y ≡ a.y → scalar k a z ≡ pos 0
unfolding scalar
scalar_at_first k a z ex ey = omega (arith, ints, zero_left (a.x -ℤ k.x) (z.x -ℤ k.x) (omega (arith, ints)), zero_left (a.y -ℤ k.y) (z.y -ℤ k.y) (omega (arith, ints)))

scalar_at_second : (k a z : Point) → k.x ≡ z.x → k.y ≡ z.y → scalar k a z ≡ pos 0
unfolding scalar
scalar_at_second k a z ex ey = omega (arith, ints, zero_right (a.x -ℤ k.x) (z.x -ℤ k.x) (omega (arith, ints)), zero_right (a.y -ℤ k.y) (z.y -ℤ k.y) (omega (arith, ints)))

-- one of two points comes before the other, or they are equal
pub by_order : {P : Type 0} (p q : Point) → (IsBefore p q → P) → (p.x ≡ q.x → p.y ≡ q.y → P) → (IsBefore q p → P) → P
by_order p q f g h =
    by_sign (q.x -ℤ p.x)
    (λ s. f (inl (omega (arith, ints))))
    (λ s. by_sign (q.y -ℤ p.y)
    (λ t. f (inr (omega (arith, ints), omega (arith, ints))))
    (λ t. g (omega (arith, ints)) (omega (arith, ints)))
    (λ t. h (inr (omega (arith, ints), omega (arith, ints)))))
    (λ s. h (inl (omega (arith, ints))))

-- a point between two others stands between them in the order too
pub between_is_amid : (k a z : Point) → IsBefore a z → area a k z ≡ pos 0 → scalar k a z <ℤ pos 0 → IsBefore a k × IsBefore k z
between_is_amid k a z h e s =
    let e2 : area k a z ≡ pos 0 = omega (arith, ints, area_back a k z) in
    by_order a k
    (λ p. by_order k z
    (λ q. (p, q))
    (λ ex ey. absurd (omega (arith, ints, scalar_at_second k a z ex ey)))
    (λ q. absurd (omega (arith, ints, scalar_behind k a z p q e2))))
    (λ ex ey. absurd (omega (arith, ints, scalar_at_first k a z (sym ex) (sym ey))))
    (λ p. by_order k z
    (λ q. absurd (omega (arith, ints, scalar_before k a z p q e2)))
    (λ ex ey. absurd (omega (arith, ints, scalar_at_second k a z ex ey)))
    (λ q. absurd (omega (arith, ints, h, p, q))))

pub amid_is_between : (k a z : Point) → IsBefore a k → IsBefore k z → area a k z ≡ pos 0 → scalar k a z <ℤ pos 0
amid_is_between k a z p q e = scalar_amid k a z p q (omega (arith, ints, area_back a k z))
