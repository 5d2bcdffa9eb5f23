-- Why no border step begins at a point strictly inside a triangle of points.
use Rattle.std.proofs.Common.{◌≡◌, ◌<◌, ℕ, List, length, ℤ, pos, ◌+ℤ◌, ◌-ℤ◌, ◌*ℤ◌, neg_ℤ, ◌<ℤ◌, ◌≤ℤ◌, inl, inr, arith, sym, ◌∙◌, ap}
use Rattle.std.proofs.lemmas.Int.{ints}
use Rattle.std.proofs.Math.IntN.{*ℤ_comm}
use Rattle.plane.specs.declared.coordinates.Point.{Point}
use Rattle.plane.specs.declared.coordinates.Turn.{Turn}
use Rattle.plane.specs.declared.coordinates.Turn.TheVariants.{Left, Straight, Right}
use Rattle.plane.specs.Geometry.{point, area}
use Rattle.plane.specs.Accepted.{AreAccepted}
use Rattle.plane.specs.Hull.{IsOnSide}
use Rattle.plane.specs.Walks.{IsStrictlyInTriangle, HasNoStep}
use Rattle.number_laws.proofs.Products.{mul_add, mul_sub, mul_assoc, mul_neg, mul_left_comm, sub_mul}
use Rattle.number_laws.proofs.Signs.{negative_or, positive_positive, zero_right}
use Rattle.plane.proofs.laws.Area.{area_cycle, area_first}
use Rattle.plane.proofs.laws.Line.{collinear}
use Rattle.plane.proofs.laws.Border.{points_differ}

rotate : (a b c : ℤ) → (a *ℤ b) *ℤ c ≡ (b *ℤ c) *ℤ a
rotate a b c = mul_assoc a b c ∙ *ℤ_comm a (b *ℤ c)

-- three numbers, each times the cross product of the other two steps, cancel
across_cancels : (ax ay bx by cx cy : ℤ) → (bx *ℤ cy -ℤ by *ℤ cx) *ℤ ax +ℤ ((cx *ℤ ay -ℤ cy *ℤ ax) *ℤ bx +ℤ (ax *ℤ by -ℤ ay *ℤ bx) *ℤ cx) ≡ pos 0
across_cancels ax ay bx by cx cy =
    omega (arith, ints, sub_mul (bx *ℤ cy) (by *ℤ cx) ax, sub_mul (cx *ℤ ay) (cy *ℤ ax) bx, sub_mul (ax *ℤ by) (ay *ℤ bx) cx, rotate bx cy ax, rotate ax by cx, rotate cx ay bx)

upward_cancels : (ax ay bx by cx cy : ℤ) → (bx *ℤ cy -ℤ by *ℤ cx) *ℤ ay +ℤ ((cx *ℤ ay -ℤ cy *ℤ ax) *ℤ by +ℤ (ax *ℤ by -ℤ ay *ℤ bx) *ℤ cy) ≡ pos 0
upward_cancels ax ay bx by cx cy =
    omega (arith, ints, sub_mul (bx *ℤ cy) (by *ℤ cx) ay, sub_mul (cx *ℤ ay) (cy *ℤ ax) by, sub_mul (ax *ℤ by) (ay *ℤ bx) cy, rotate ay bx cy, rotate by cx ay, rotate cy ax by)

scaled_cross : (m wx wy ax ay : ℤ) → m *ℤ (wx *ℤ ay -ℤ wy *ℤ ax) ≡ wx *ℤ (m *ℤ ay) -ℤ wy *ℤ (m *ℤ ax)
scaled_cross m wx wy ax ay =
    mul_sub m (wx *ℤ ay) (wy *ℤ ax) ∙ ap (λ x. x -ℤ m *ℤ (wy *ℤ ax)) (mul_left_comm m wx ay) ∙ ap (λ x. wx *ℤ (m *ℤ ay) -ℤ x) (mul_left_comm m wy ax)

mul_three : (w x y z : ℤ) → x +ℤ (y +ℤ z) ≡ pos 0 → w *ℤ x +ℤ (w *ℤ y +ℤ w *ℤ z) ≡ pos 0
mul_three w x y z h = omega (arith, ints, mul_add w x (y +ℤ z), mul_add w y z, zero_right w (x +ℤ (y +ℤ z)) h)

-- what three steps weigh cancels against any further step
weights_cancel : (l m n wx wy ax ay bx by cx cy : ℤ) → l *ℤ ax +ℤ (m *ℤ bx +ℤ n *ℤ cx) ≡ pos 0 → l *ℤ ay +ℤ (m *ℤ by +ℤ n *ℤ cy) ≡ pos 0
    → l *ℤ (wx *ℤ ay -ℤ wy *ℤ ax) +ℤ (m *ℤ (wx *ℤ by -ℤ wy *ℤ bx) +ℤ n *ℤ (wx *ℤ cy -ℤ wy *ℤ cx)) ≡ pos 0
weights_cancel l m n wx wy ax ay bx by cx cy across upward =
    omega (arith, ints, scaled_cross l wx wy ax ay, scaled_cross m wx wy bx by, scaled_cross n wx wy cx cy, mul_three wx (l *ℤ ay) (m *ℤ by) (n *ℤ cy) upward, mul_three wy (l *ℤ ax) (m *ℤ bx) (n *ℤ cx) across)

-- the triangles at v weigh the areas over a line through v so that they cancel
areas_cancel : (v w a b c : Point) → area v b c *ℤ area v w a +ℤ (area v c a *ℤ area v w b +ℤ area v a b *ℤ area v w c) ≡ pos 0
unfolding area
areas_cancel v w a b c =
    let ax = a.x -ℤ v.x in let ay = a.y -ℤ v.y in let bx = b.x -ℤ v.x in let by = b.y -ℤ v.y in let cx = c.x -ℤ v.x in let cy = c.y -ℤ v.y in
    weights_cancel (area v b c) (area v c a) (area v a b) (w.x -ℤ v.x) (w.y -ℤ v.y) ax ay bx by cx cy (across_cancels ax ay bx by cx cy) (upward_cancels ax ay bx by cx cy)

not_negative : (m x : ℤ) → pos 0 <ℤ m → pos 0 ≤ℤ x → pos 0 ≤ℤ (m *ℤ x)
not_negative m x hm hx = elim (negative_or x) [
  | inl n ↦ absurd (omega (arith, ints))
  | inr rest ↦ elim rest [ inl z ↦ (let e = zero_right m x z in omega (arith, ints)) | inr h ↦ (let p = positive_positive m x hm h in omega (arith, ints)) ]
]

-- positive weights of numbers that aren't negative cancel only where each number is 0
first_is_zero : (l m n x y z : ℤ) → pos 0 <ℤ l → pos 0 <ℤ m → pos 0 <ℤ n → pos 0 ≤ℤ x → pos 0 ≤ℤ y → pos 0 ≤ℤ z → l *ℤ x +ℤ (m *ℤ y +ℤ n *ℤ z) ≡ pos 0 → x ≡ pos 0
first_is_zero l m n x y z hl hm hn hx hy hz e = elim (negative_or x) [
  | inl h ↦ absurd (omega (arith, ints))
  | inr rest ↦ elim rest [ inl h ↦ h | inr h ↦ absurd (let p = positive_positive l x hl h in let q = not_negative m y hm hy in let r = not_negative n z hn hz in omega (arith, ints)) ]
]

negated : (l m n x y z : ℤ) → l *ℤ x +ℤ (m *ℤ y +ℤ n *ℤ z) ≡ pos 0 → l *ℤ neg_ℤ x +ℤ (m *ℤ neg_ℤ y +ℤ n *ℤ neg_ℤ z) ≡ pos 0
negated l m n x y z e = omega (arith, ints, mul_neg l x, mul_neg m y, mul_neg n z)

zero_on_side : (side : Turn) (l m n x y z : ℤ) → pos 0 <ℤ l → pos 0 <ℤ m → pos 0 <ℤ n → IsOnSide side x → IsOnSide side y → IsOnSide side z → l *ℤ x +ℤ (m *ℤ y +ℤ n *ℤ z) ≡ pos 0 → x ≡ pos 0
zero_on_side Left l m n x y z hl hm hn hx hy hz e = first_is_zero l m n x y z hl hm hn hx hy hz e
zero_on_side Straight l m n x y z hl hm hn hx hy hz e = hx
zero_on_side Right l m n x y z hl hm hn hx hy hz e =
    let h = first_is_zero l m n (neg_ℤ x) (neg_ℤ y) (neg_ℤ z) hl hm hn (omega (arith, ints)) (omega (arith, ints)) (omega (arith, ints)) (negated l m n x y z e) in omega (arith, ints)

-- a corner of a triangle round v is on a line through v that has the triangle on one side
corner_on_line : (side : Turn) (v w a b c : Point) → pos 0 <ℤ area a b v → pos 0 <ℤ area b c v → pos 0 <ℤ area c a v
    → IsOnSide side (area v w a) → IsOnSide side (area v w b) → IsOnSide side (area v w c) → area v w a ≡ pos 0
corner_on_line side v w a b c hc ha hb sa sb sc =
    zero_on_side side (area v b c) (area v c a) (area v a b) (area v w a) (area v w b) (area v w c)
    (let e = area_cycle v b c in omega (arith, ints)) (let e = area_cycle v c a in omega (arith, ints)) (let e = area_cycle v a b in omega (arith, ints))
    sa sb sc (areas_cancel v w a b c)

pub no_step_inside : (S : List Point) (v a b c : ℕ) → AreAccepted S → v < length S → a < length S → b < length S → c < length S → IsStrictlyInTriangle S v a b c → HasNoStep S v
no_step_inside S v a b c accepted hv ha hb hc inside side w step =
    let at_a = corner_on_line side (point S v) (point S w) (point S a) (point S b) (point S c) inside.0 inside.1 inside.2 (step.all a ha) (step.all b hb) (step.all c hc) in
    let at_b = corner_on_line side (point S v) (point S w) (point S b) (point S c) (point S a) inside.1 inside.2 inside.0 (step.all b hb) (step.all c hc) (step.all a ha) in
    let flat = collinear (point S v) (point S w) (point S a) (point S b) (point S v) (points_differ S v w accepted.apart hv step.within (λ e. step.apart (sym e))) at_a at_b (area_first (point S v) (point S w)) in
    omega (arith, ints, inside.0, flat)
