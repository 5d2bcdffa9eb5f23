-- Points in one direction: which is nearer, and in which half the one is seen from the other.
use Rattle.std.proofs.Common.{◌≢◌, sym, subst, inl, inr, ◌-ℤ◌, arith}
use Rattle.std.proofs.lemmas.Int.{ints}
use Rattle.std.proofs.Math.IntN.{*ℤ_comm}
use Rattle.plane.specs.declared.coordinates.Point.{Point}
use Rattle.plane.specs.Geometry.{area, scalar, LiesBetween}
use Rattle.plane.proofs.laws.Area.{area_swap, area_back}
use Rattle.plane.proofs.laws.Opposite.{opposite_steps}
use Rattle.plane.proofs.laws.Along.{one_between}
use Rattle.star.specs.Turn.{IsUpper, IsLower, AreInOneHalf, PointTogether}
use Rattle.star.proofs.laws.Turning.{not_both}

swap_half : (c q r : Point) → AreInOneHalf c q r → AreInOneHalf c r q
swap_half c q r (inl h) = inl (h.1, h.0)
swap_half c q r (inr h) = inr (h.1, h.0)

pub together_back : (c q r : Point) → PointTogether c q r → PointTogether c r q
together_back c q r h = (swap_half c q r h.0, (let e = area_swap c q r in omega (arith, ints, e, h.1)))

-- what lies between p and q is in the direction of q
pub between_together : (p k q : Point) → LiesBetween k p q → PointTogether p k q
unfolding area scalar
between_together p k q h =
    let back = area_back p k q in
    let a = *ℤ_comm (p.x -ℤ k.x) (q.y -ℤ k.y) in
    let steps = opposite_steps (p.y -ℤ k.y) (p.x -ℤ k.x) (q.y -ℤ k.y) (q.x -ℤ k.x) (omega (arith, ints, back, h.0)) (omega (arith, ints, h.1)) in
    let half : AreInOneHalf p k q = elim steps [
      | inl y ↦ elim y [
        | inl up ↦ inl (inl (omega (arith, ints, up.0)), inl (omega (arith, ints, up.0, up.1)))
        | inr down ↦ inr (inl (omega (arith, ints, down.0)), inl (omega (arith, ints, down.0, down.1)))
      ]
      | inr level ↦ elim level.2 [
        | inl right ↦ inl (inr (omega (arith, ints, level.0), omega (arith, ints, right.0)), inr (omega (arith, ints, level.0, level.1), omega (arith, ints, right.0, right.1)))
        | inr left ↦ inr (inr (omega (arith, ints, level.0), omega (arith, ints, left.0)), inr (omega (arith, ints, level.0, level.1), omega (arith, ints, left.0, left.1)))
      ]
    ] in
    (half, h.0)

-- along one direction, a further point is in the same half seen from a nearer one
pub further_on : (c q r : Point) → LiesBetween q c r → (IsUpper c q → IsUpper q r) × (IsLower c q → IsLower q r)
unfolding area scalar
further_on c q r h =
    let a = *ℤ_comm (c.x -ℤ q.x) (r.y -ℤ q.y) in
    let back = area_back c q r in
    let steps = opposite_steps (c.y -ℤ q.y) (c.x -ℤ q.x) (r.y -ℤ q.y) (r.x -ℤ q.x) (omega (arith, ints, back, h.0)) (omega (arith, ints, h.1)) in
    elim steps [
      | inl y ↦ elim y [
        | inl up ↦ (λ u. inl (omega (arith, ints, up.1)), λ d. absurd (not_both c q (inl (omega (arith, ints, up.0))) d))
        | inr down ↦ (λ u. absurd (not_both c q u (inl (omega (arith, ints, down.0)))), λ d. inl (omega (arith, ints, down.1)))
      ]
      | inr level ↦ elim level.2 [
        | inl right ↦ (λ u. inr (omega (arith, ints, level.1), omega (arith, ints, right.1)), λ d. absurd (not_both c q (inr (omega (arith, ints, level.0), omega (arith, ints, right.0))) d))
        | inr left ↦ (λ u. absurd (not_both c q u (inr (omega (arith, ints, level.0), omega (arith, ints, left.0)))), λ d. inr (omega (arith, ints, level.1), omega (arith, ints, left.1)))
      ]
    ]

pub flip_up : (c q : Point) → IsUpper c q → IsLower q c
flip_up c q (inl h) = inl h
flip_up c q (inr h) = inr (sym h.0, h.1)

pub flip_down : (c q : Point) → IsLower c q → IsUpper q c
flip_down c q (inl h) = inl h
flip_down c q (inr h) = inr (sym h.0, h.1)

pub not_itself : (q : Point) → ¬ IsUpper q q
not_itself q (inl h) = omega (arith, ints)
not_itself q (inr h) = omega (arith, ints, h.1)

upper_apart : (c q : Point) → IsUpper c q → c ≢ q
upper_apart c q h e = not_itself q (subst (λ z. IsUpper z q) e h)

lower_apart : (c q : Point) → IsLower c q → c ≢ q
lower_apart c q h e = upper_apart q c (flip_down c q h) (sym e)

-- points in one direction of the upper half come by distance where each is in the upper half of the one before, as they do in
-- the order of y, then x
pub rank_up : (c q r : Point) → PointTogether c q r → IsUpper c q → IsUpper q r → LiesBetween q c r
rank_up c q r together hq hr =
    let far : IsUpper c r = elim together.0 [ inl u ↦ u.1 | inr d ↦ absurd (not_both c q hq d.0) ] in
    elim (one_between c q r (upper_apart c q hq) (upper_apart c r far) (upper_apart q r hr) together.1) [
      | inl b ↦ absurd (not_both c r far ((further_on q c r b).1 (flip_up c q hq)))
      | inr rest ↦ elim rest [ inl b ↦ b | inr b ↦ absurd (not_both r q ((further_on c r q b).0 far) (flip_up q r hr)) ]
    ]

-- in the lower half it is the same order the other way round
pub rank_down : (c q r : Point) → PointTogether c q r → IsLower c q → IsLower q r → LiesBetween q c r
rank_down c q r together hq hr =
    let far : IsLower c r = elim together.0 [ inl u ↦ absurd (not_both c q u.0 hq) | inr d ↦ d.1 ] in
    elim (one_between c q r (lower_apart c q hq) (lower_apart c r far) (lower_apart q r hr) together.1) [
      | inl b ↦ absurd (not_both c r ((further_on q c r b).0 (flip_down c q hq)) far)
      | inr rest ↦ elim rest [ inl b ↦ b | inr b ↦ absurd (not_both r q (flip_down q r hr) ((further_on c r q b).1 far)) ]
    ]
