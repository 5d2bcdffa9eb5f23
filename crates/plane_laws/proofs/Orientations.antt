-- Laws of the orientation of points.
use Rattle.std.proofs.Common.{◌≡◌, ℤ, pos, ◌+ℤ◌, ◌-ℤ◌, ◌*ℤ◌, neg_ℤ, arith, sym, ◌∙◌, ap, inl, inr}
use Rattle.std.specs.Prelude.{◌<ℤ◌, ◌≤ℤ◌}
use Rattle.std.proofs.Math.IntN.{*ℤ_comm}
use Rattle.std.proofs.lemmas.Int.{ints}
use Rattle.plane.specs.declared.coordinates.Point.{Point}
use Rattle.plane.specs.Geometry.{area}
use Rattle.number_laws.proofs.Products.{mul_add, mul_differences}
use Rattle.number_laws.proofs.Crosses.{cross, three_across}
use Rattle.number_laws.proofs.Signs.{zero_left, zero_right, cancel_zero}
use Rattle.plane_laws.specs.Order.{IsBefore, AreInOrder}
use Rattle.plane_laws.proofs.Steps.{Ahead, turn_weak, turn_first, turn_last}
use Rattle.number_laws.proofs.Crosses.{cross_back}

-- the area by the steps from p to q and from q to r
pub area_steps : (p q r : Point) → area p q r ≡ cross (q.x -ℤ p.x) (q.y -ℤ p.y) (r.x -ℤ q.x) (r.y -ℤ q.y)
unfolding area
area_steps p q r =
    omega (arith, ints, mul_differences q.x p.x r.y p.y, mul_differences q.y p.y r.x p.x, mul_differences q.x p.x r.y q.y, mul_differences q.y p.y r.x q.x)

-- the area by the steps from r to p and from p to q
pub area_steps_before : (p q r : Point) → area p q r ≡ cross (p.x -ℤ r.x) (p.y -ℤ r.y) (q.x -ℤ p.x) (q.y -ℤ p.y)
unfolding area
area_steps_before p q r =
    omega (arith, ints, mul_differences q.x p.x r.y p.y, mul_differences q.y p.y r.x p.x, mul_differences p.x r.x q.y p.y, mul_differences p.y r.y q.x p.x)

-- the area by the steps from r to q and from p to q
pub area_steps_into : (p q r : Point) → area p q r ≡ cross (q.x -ℤ r.x) (q.y -ℤ r.y) (q.x -ℤ p.x) (q.y -ℤ p.y)
unfolding area
area_steps_into p q r =
    omega (arith, ints, mul_differences q.x p.x r.y p.y, mul_differences q.y p.y r.x p.x, mul_differences q.x r.x q.y p.y, mul_differences q.y r.y q.x p.x)

-- the determinant of two points
unfoldable pub det : (p q : Point) → ℤ
det p q = p.x *ℤ q.y -ℤ p.y *ℤ q.x

-- the area by the determinants of its sides
pub area_sides : (p q r : Point) → area p q r ≡ (det p q +ℤ det q r) -ℤ det p r
unfolding area det
area_sides p q r =
    omega (arith, ints, mul_differences q.x p.x r.y p.y, mul_differences q.y p.y r.x p.x, *ℤ_comm p.x q.y, *ℤ_comm p.y q.x, *ℤ_comm p.x p.y)

pub area_four : (p q r s : Point) → area p q r +ℤ area p r s ≡ area p q s +ℤ area q r s
area_four p q r s = omega (arith, ints, area_sides p q r, area_sides p r s, area_sides p q s, area_sides q r s)

cross_sum : (ax ay bx by cx cy : ℤ) → cross ax ay (bx +ℤ cx) (by +ℤ cy) ≡ cross ax ay bx by +ℤ cross ax ay cx cy
cross_sum ax ay bx by cx cy = omega (arith, ints, mul_add ax by cy, mul_add ay bx cx)

way : (q r s : ℤ) → s -ℤ q ≡ (r -ℤ q) +ℤ (s -ℤ r)
way q r s = omega (arith, ints)

-- what a further point adds to the area
area_more : (p q r s : Point) → area p q s ≡ area p q r +ℤ cross (q.x -ℤ p.x) (q.y -ℤ p.y) (s.x -ℤ r.x) (s.y -ℤ r.y)
area_more p q r s =
    area_steps p q s
    ∙ ap (λ x. cross (q.x -ℤ p.x) (q.y -ℤ p.y) x (s.y -ℤ q.y)) (way q.x r.x s.x)
    ∙ ap (λ y. cross (q.x -ℤ p.x) (q.y -ℤ p.y) ((r.x -ℤ q.x) +ℤ (s.x -ℤ r.x)) y) (way q.y r.y s.y)
    ∙ cross_sum (q.x -ℤ p.x) (q.y -ℤ p.y) (r.x -ℤ q.x) (r.y -ℤ q.y) (s.x -ℤ r.x) (s.y -ℤ r.y)
    ∙ ap (λ x. x +ℤ cross (q.x -ℤ p.x) (q.y -ℤ p.y) (s.x -ℤ r.x) (s.y -ℤ r.y)) (sym (area_steps p q r))

pub ahead : (p q : Point) → IsBefore p q → Ahead (q.x -ℤ p.x) (q.y -ℤ p.y)
ahead p q (inl h) = inl (omega (arith, ints))
ahead p q (inr h) = inr (omega (arith, ints, h.0), omega (arith, ints, h.1))

numbers : (a b c d X Y Z : ℤ) → a ≡ X → d ≡ Y → b ≡ a +ℤ Z → a +ℤ c ≡ b +ℤ d
    → (pos 0 ≤ℤ X → pos 0 ≤ℤ Y → pos 0 ≤ℤ Z) → (pos 0 <ℤ X → pos 0 ≤ℤ Y → pos 0 <ℤ Z) → (pos 0 ≤ℤ X → pos 0 <ℤ Y → pos 0 <ℤ Z)
    → (X ≤ℤ pos 0 → Y ≤ℤ pos 0 → Z ≤ℤ pos 0) → (X <ℤ pos 0 → Y ≤ℤ pos 0 → Z <ℤ pos 0) → (X ≤ℤ pos 0 → Y <ℤ pos 0 → Z <ℤ pos 0)
    → AreInOrder a b c d
numbers a b c d X Y Z ea ed eb sum r1 r2 r3 f1 f2 f3 = record {
  sum = sum;
  rises = λ g h. let z : pos 0 ≤ℤ Z = r1 (omega (arith, ints)) (omega (arith, ints)) in omega (arith, ints);
  rises_first = λ g h. let z : pos 0 <ℤ Z = r2 (omega (arith, ints)) (omega (arith, ints)) in omega (arith, ints);
  rises_last = λ g h. let z : pos 0 <ℤ Z = r3 (omega (arith, ints)) (omega (arith, ints)) in omega (arith, ints);
  falls = λ g h. let z : Z ≤ℤ pos 0 = f1 (omega (arith, ints)) (omega (arith, ints)) in omega (arith, ints);
  falls_first = λ g h. let z : Z <ℤ pos 0 = f2 (omega (arith, ints)) (omega (arith, ints)) in omega (arith, ints);
  falls_last = λ g h. let z : Z <ℤ pos 0 = f3 (omega (arith, ints)) (omega (arith, ints)) in omega (arith, ints);
}

-- four points in order
pub in_order : (p q r s : Point) → IsBefore p q → IsBefore q r → IsBefore r s → AreInOrder (area p q r) (area p q s) (area p r s) (area q r s)
in_order p q r s hp hq hr =
    let ux : ℤ = q.x -ℤ p.x in let uy : ℤ = q.y -ℤ p.y in
    let vx : ℤ = r.x -ℤ q.x in let vy : ℤ = r.y -ℤ q.y in
    let wx : ℤ = s.x -ℤ r.x in let wy : ℤ = s.y -ℤ r.y in
    let u : Ahead ux uy = ahead p q hp in let v : Ahead vx vy = ahead q r hq in let w : Ahead wx wy = ahead r s hr in
    numbers (area p q r) (area p q s) (area p r s) (area q r s) (cross ux uy vx vy) (cross vx vy wx wy) (cross ux uy wx wy)
    (area_steps p q r) (area_steps q r s) (area_more p q r s) (area_four p q r s)
    (turn_weak ux uy vx vy wx wy u v w) (turn_first ux uy vx vy wx wy u v w) (turn_last ux uy vx vy wx wy u v w)
    (λ g h. let t : pos 0 ≤ℤ cross wx wy ux uy = turn_weak wx wy vx vy ux uy w v u (omega (arith, ints, cross_back vx vy wx wy)) (omega (arith, ints, cross_back ux uy vx vy)) in omega (arith, ints, cross_back ux uy wx wy))
    (λ g h. let t : pos 0 <ℤ cross wx wy ux uy = turn_last wx wy vx vy ux uy w v u (omega (arith, ints, cross_back vx vy wx wy)) (omega (arith, ints, cross_back ux uy vx vy)) in omega (arith, ints, cross_back ux uy wx wy))
    (λ g h. let t : pos 0 <ℤ cross wx wy ux uy = turn_first wx wy vx vy ux uy w v u (omega (arith, ints, cross_back vx vy wx wy)) (omega (arith, ints, cross_back ux uy vx vy)) in omega (arith, ints, cross_back ux uy wx wy))

-- two steps in line with a third are in line
in_line_steps : (ux uy vx vy wx wy : ℤ) → Ahead vx vy → cross ux uy vx vy ≡ pos 0 → cross vx vy wx wy ≡ pos 0 → cross ux uy wx wy ≡ pos 0
in_line_steps ux uy vx vy wx wy (inl hv) hx hy =
    cancel_zero vx (cross ux uy wx wy) hv (omega (arith, ints, three_across ux uy vx vy wx wy, zero_right ux (cross vx vy wx wy) hy, zero_right wx (cross ux uy vx vy) hx))
in_line_steps ux uy vx vy wx wy (inr hv) hx hy =
    let u : ux ≡ pos 0 = cancel_zero vy ux hv.1 (omega (arith, ints, zero_right uy vx hv.0, *ℤ_comm vy ux)) in
    let w : wx ≡ pos 0 = cancel_zero vy wx hv.1 (omega (arith, ints, zero_left vx wy hv.0)) in
    omega (arith, ints, zero_left ux wy u, zero_right uy wx w)

-- points in line with two others are in line
pub in_line : (p q a b : Point) → IsBefore p q → area p q a ≡ pos 0 → area p q b ≡ pos 0 → area p a b ≡ pos 0
unfolding area
in_line p q a b hpq ha hb =
    in_line_steps (a.x -ℤ p.x) (a.y -ℤ p.y) (q.x -ℤ p.x) (q.y -ℤ p.y) (b.x -ℤ p.x) (b.y -ℤ p.y) (ahead p q hpq)
    (cross_back (a.x -ℤ p.x) (a.y -ℤ p.y) (q.x -ℤ p.x) (q.y -ℤ p.y) ∙ ap neg_ℤ ha) hb

pub all_in_line : (p q a b c : Point) → IsBefore p q → area p q a ≡ pos 0 → area p q b ≡ pos 0 → area p q c ≡ pos 0 → area a b c ≡ pos 0
all_in_line p q a b c hpq ha hb hc =
    omega (arith, ints, area_four p a b c, in_line p q a b hpq ha hb, in_line p q a c hpq ha hc, in_line p q b c hpq hb hc)
