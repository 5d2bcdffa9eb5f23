-- A point strictly inside a triangle of points is an inner point.
use Rattle.std.proofs.Common.{◌≡◌, ◌≢◌, ◌<◌, ℕ, List, length, ℤ, pos, ◌+ℤ◌, ◌*ℤ◌, ◌<ℤ◌, ◌≤ℤ◌, inl, inr, arith, sym, ap}
use Rattle.std.proofs.lemmas.Int.{ints}
use Rattle.plane.specs.declared.coordinates.Point.{Point}
use Rattle.plane.specs.Geometry.{point, area, orientation, IsInner}
use Rattle.plane.specs.Accepted.{AreAccepted}
use Rattle.number_laws.proofs.Products.{neg_mul}
use Rattle.number_laws.proofs.Signs.{zero_right, mul_weak, cancel_zero, weak_of_positive}
use Rattle.plane.proofs.laws.Area.{area_back, area_first, area_second}
use Rattle.plane.proofs.laws.Line.{collinear}
use Rattle.plane.proofs.laws.Border.{points_differ}
use Rattle.plane_laws.proofs.Separation.{weigh}

-- on a line through v the triangles at v weigh the areas to the corners so that they cancel
areas_cancel : (p q v a b c : Point) → area p q v ≡ pos 0 → area b c v *ℤ area p q a +ℤ (area c a v *ℤ area p q b +ℤ area a b v *ℤ area p q c) ≡ pos 0
areas_cancel p q v a b c on =
    omega (arith, ints, weigh p q a b c v, zero_right (area a b c) (area p q v) on, neg_mul (area c a v) (area p q b), ap (λ x. x *ℤ area p q b) (area_back a c v))

-- positive weights of numbers that aren't negative cancel only where the numbers are 0
both_zero : (l m n x y z : ℤ) → pos 0 <ℤ l → pos 0 <ℤ m → pos 0 <ℤ n → pos 0 ≤ℤ x → pos 0 ≤ℤ y → pos 0 ≤ℤ z → l *ℤ x +ℤ (m *ℤ y +ℤ n *ℤ z) ≡ pos 0 → (x ≡ pos 0) × (y ≡ pos 0)
both_zero l m n x y z hl hm hn hx hy hz sum =
    let p = mul_weak l x (weak_of_positive l hl) hx in
    let q = mul_weak m y (weak_of_positive m hm) hy in
    let r = mul_weak n z (weak_of_positive n hn) hz in
    (cancel_zero l x hl (omega (arith, ints)), cancel_zero m y hm (omega (arith, ints)))

-- no line through v has the three corners on one side
none_aside : (p q v a b c : Point) → p ≢ q → area p q v ≡ pos 0 → pos 0 <ℤ area a b v → pos 0 <ℤ area b c v → pos 0 <ℤ area c a v → pos 0 ≤ℤ area p q a → pos 0 ≤ℤ area p q b → ¬ (pos 0 ≤ℤ area p q c)
none_aside p q v a b c apart on hc ha hb xa xb xc =
    let (za, zb) = both_zero (area b c v) (area c a v) (area a b v) (area p q a) (area p q b) (area p q c) ha hb hc xa xb xc (areas_cancel p q v a b c on) in
    let flat = collinear p q a b v apart za zb on in
    omega (arith, ints)

pub inner_inside : (S : List Point) (v a b c : ℕ) → AreAccepted S → v < length S → a < length S → b < length S → c < length S → pos 0 <ℤ orientation S a b v → pos 0 <ℤ orientation S b c v → pos 0 <ℤ orientation S c a v → IsInner S v
inner_inside S v a b c ok hv ha hb hc ab bc ca w hw ne border = elim border.1 [
  | inl left ↦ none_aside (point S v) (point S w) (point S v) (point S a) (point S b) (point S c) (points_differ S v w ok.apart hv hw (λ e. ne (sym e)))
      (area_first (point S v) (point S w)) ab bc ca (left a ha) (left b hb) (left c hc)
  | inr left ↦ none_aside (point S w) (point S v) (point S v) (point S a) (point S b) (point S c) (points_differ S w v ok.apart hw hv ne)
      (area_second (point S w) (point S v)) ab bc ca (left a ha) (left b hb) (left c hc)
]
