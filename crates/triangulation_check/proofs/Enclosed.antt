-- A point strictly inside a triangle of points, and what a segment from it can reach.
use Rattle.std.proofs.Common.{◌≡◌, ◌≢◌, ℕ, ◌<◌, List, length, ℤ, pos, neg_ℤ, ◌+ℤ◌, ◌*ℤ◌, ◌<ℤ◌, ◌≤ℤ◌, inl, inr, arith, sym}
use Rattle.std.proofs.lemmas.Int.{ints}
use Rattle.plane.specs.declared.coordinates.Point.{Point}
use Rattle.plane.specs.Geometry.{point, orientation, IsBetween, IsClear, IsInner}
use Rattle.plane.specs.Accepted.{AreAccepted}
use Rattle.plane.proofs.laws.Area.{area_first}
use Rattle.plane.proofs.laws.Along.{between_swap, other_side, other_side_right, one_between}
use Rattle.plane.proofs.laws.Border.{points_differ}
use Rattle.plane.proofs.laws.Line.{collinear}
use Rattle.number_laws.proofs.Products.{mul_neg, neg_mul}
use Rattle.number_laws.proofs.Signs.{by_sign, cancel_strict, cancel_zero, mul_weak, positive_positive, positive_negative, negative_positive, zero_right}
use Rattle.number_laws.proofs.Sums.{high_low_weak}
use Rattle.plane_laws.proofs.Field.{rot, rot_back, low_last}
use Rattle.plane_laws.proofs.Places.{plane_laws}

-- what a product that is a sum of two others says of one factor's sign
pub high_sum : (a b c d e f : ℤ) → a *ℤ b ≡ c *ℤ d +ℤ e *ℤ f → pos 0 <ℤ a → pos 0 ≤ℤ c → pos 0 <ℤ d → pos 0 <ℤ e → pos 0 <ℤ f → pos 0 <ℤ b
high_sum a b c d e f is ha hc hd he hf =
    let x = mul_weak c d hc (omega (arith, ints)) in let y = positive_positive e f he hf in cancel_strict a b ha (omega (arith, ints))

pub low_sum : (a b c d e f : ℤ) → a *ℤ b ≡ c *ℤ d +ℤ e *ℤ f → pos 0 <ℤ a → pos 0 <ℤ c → d <ℤ pos 0 → pos 0 ≤ℤ e → f <ℤ pos 0 → b <ℤ pos 0
low_sum a b c d e f is ha hc hd he hf =
    let x = positive_negative c d hc hd in let y = high_low_weak e f he hf in
    by_sign b (λ p. absurd (let z = positive_positive a b ha p in omega (arith, ints))) (λ p. absurd (let z = zero_right a b p in omega (arith, ints))) (λ p. p)

pub high_of_low : (a b c d e f : ℤ) → a *ℤ b ≡ c *ℤ d +ℤ e *ℤ f → a <ℤ pos 0 → pos 0 <ℤ c → d <ℤ pos 0 → pos 0 <ℤ e → f <ℤ pos 0 → pos 0 <ℤ b
high_of_low a b c d e f is ha hc hd he hf =
    let x = positive_negative c d hc hd in let y = positive_negative e f he hf in
    by_sign b (λ p. p) (λ p. absurd (let z = zero_right a b p in omega (arith, ints)))
    (λ p. absurd (let z = positive_positive (neg_ℤ a) (neg_ℤ b) (omega (arith, ints)) (omega (arith, ints)) in let w = mul_neg (neg_ℤ a) b in let v = neg_mul a b in omega (arith, ints)))

-- a sum that is both weakly positive and weakly negative has no parts
flat : (a b c x y z : ℤ) → a *ℤ y ≡ c *ℤ x +ℤ b *ℤ z → a <ℤ pos 0 → pos 0 <ℤ b → pos 0 <ℤ c → pos 0 ≤ℤ x → pos 0 ≤ℤ y → pos 0 ≤ℤ z → (x ≡ pos 0) × (z ≡ pos 0)
flat a b c x y z is ha hb hc hx hy hz =
    let u = mul_weak c x (omega (arith, ints)) hx in
    let v = mul_weak b z (omega (arith, ints)) hz in
    let w : (a *ℤ y) ≤ℤ pos 0 = by_sign y (λ p. (let n = negative_positive a y ha p in omega (arith, ints))) (λ p. (let n = zero_right a y p in omega (arith, ints))) (λ p. absurd (omega (arith, ints))) in
    (cancel_zero c x hc (omega (arith, ints)), cancel_zero b z hb (omega (arith, ints)))

-- s is strictly inside p q r
pub record IsEnclosed (S : List Point) (p q r s : ℕ) : Type 0 where
  pub first : pos 0 <ℤ orientation S p q s
  pub second : pos 0 <ℤ orientation S q r s
  pub third : pos 0 <ℤ orientation S r p s

-- no border pair begins at a point strictly inside a triangle
pub enclosed_is_inner : (S : List Point) (p q r s : ℕ) → AreAccepted S → p < length S → q < length S → r < length S → s < length S → IsEnclosed S p q r s → IsInner S s
enclosed_is_inner S p q r s accepted hp hq hr hs in_ w hw ws pair = elim pair.1 [
  | inl left ↦ aside (orientation S s w p) (orientation S s w q) (orientation S s w r) ((plane_laws S).five s w p q r) (left p hp) (left q hq) (left r hr) (λ a b. (a, b))
  | inr left ↦ aside (neg_ℤ (orientation S s w p)) (neg_ℤ (orientation S s w q)) (neg_ℤ (orientation S s w r))
      (negated (orientation S s p r) (orientation S s p q) (orientation S s q r) (orientation S s w p) (orientation S s w q) (orientation S s w r) ((plane_laws S).five s w p q r)) (turned p (left p hp)) (turned q (left q hq)) (turned r (left r hr)) (λ a b. (zero (orientation S s w p) a, zero (orientation S s w r) b))
]
  where
    negated : (a b c x y z : ℤ) → a *ℤ y ≡ c *ℤ x +ℤ b *ℤ z → a *ℤ neg_ℤ y ≡ c *ℤ neg_ℤ x +ℤ b *ℤ neg_ℤ z
    negated a b c x y z is = omega (arith, ints, mul_neg a y, mul_neg c x, mul_neg b z)

    turned : (k : ℕ) → pos 0 ≤ℤ orientation S w s k → pos 0 ≤ℤ neg_ℤ (orientation S s w k)
    turned k h = let e = (plane_laws S).swap s w k in omega (arith, ints)

    zero : (x : ℤ) → neg_ℤ x ≡ pos 0 → x ≡ pos 0
    zero x h = omega (arith, ints)

    aside : (x y z : ℤ) → orientation S s p r *ℤ y ≡ orientation S s q r *ℤ x +ℤ orientation S s p q *ℤ z → pos 0 ≤ℤ x → pos 0 ≤ℤ y → pos 0 ≤ℤ z
        → (x ≡ pos 0 → z ≡ pos 0 → (orientation S s w p ≡ pos 0) × (orientation S s w r ≡ pos 0)) → ⊥
    aside x y z is hx hy hz back =
        let o = orientation S in let B = IsBetween S in let L = plane_laws S in
        let about : pos 0 <ℤ orientation S s r p = rot_back o B L r p s in_.third in
        let low : orientation S s p r <ℤ pos 0 = low_last o B L s r p about in
        let (a, b) = flat (orientation S s p r) (orientation S s p q) (orientation S s q r) x y z is low (rot_back o B L p q s in_.first) (rot_back o B L q r s in_.second) hx hy hz in
        let (zp, zr) = back a b in
        let e = collinear (point S s) (point S w) (point S s) (point S r) (point S p) (points_differ S s w accepted.apart hs hw (λ e. ws (sym e))) (area_first (point S s) (point S w)) zr zp in
        omega (arith, ints)

-- a point of a closed triangle with clear sides is strictly inside, where it is no corner
pub off_side : (S : List Point) (p q r s : ℕ) → AreAccepted S → p < length S → q < length S → s < length S → p ≢ q → s ≢ p → s ≢ q → pos 0 <ℤ orientation S p q r → IsClear S p q
    → pos 0 ≤ℤ orientation S p q s → pos 0 ≤ℤ orientation S q r s → pos 0 ≤ℤ orientation S r p s → pos 0 <ℤ orientation S p q s
off_side S p q r s accepted hp hq hs pq sp sq ccw clear first second third = by_sign (orientation S p q s) (λ h. h)
    (λ line. absurd (elim (one_between (point S p) (point S q) (point S s)
    (points_differ S p q accepted.apart hp hq pq) (points_differ S p s accepted.apart hp hs (λ e. sp (sym e))) (points_differ S q s accepted.apart hq hs (λ e. sq (sym e))) line) [
      | inl h ↦ (let a = low_last (orientation S) (IsBetween S) (plane_laws S) p q r ccw in
          let b = other_side (point S p) (point S s) (point S q) (point S r) (between_swap (point S p) (point S q) (point S s) h) a in
          let e = (plane_laws S).swap p r s in omega (arith, ints))
      | inr rest ↦ elim rest [
        | inl h ↦ (let a = rot (orientation S) (IsBetween S) (plane_laws S) p q r ccw in
            let b = other_side_right (point S q) (point S s) (point S p) (point S r) (between_swap (point S q) (point S p) (point S s) h) a in
            omega (arith, ints))
        | inr h ↦ clear s hs h
      ]
    ]))
    (λ h. absurd (omega (arith, ints)))

-- t lies left of r, seen from s, and not beyond r-p: then it is inside q-r
pub second_side : (S : List Point) (p q r s t : ℕ) → pos 0 <ℤ orientation S p q r → IsEnclosed S p q r s → pos 0 <ℤ orientation S r t s → pos 0 ≤ℤ orientation S r p t → pos 0 <ℤ orientation S q r t
second_side S p q r s t ccw in_ left near =
    let o = orientation S in let B = IsBetween S in let L = plane_laws S in
    let low : o r q t <ℤ pos 0 = low_sum (o r p s) (o r q t) (o r t s) (o r q p) (o r p t) (o r q s) (L.five r q p t s) in_.third left (low_last o B L r p q (rot_back o B L p q r ccw)) near (let e = L.swap r q s in let h = in_.second in omega (arith, ints)) in
    let e = L.swap q r t in omega (arith, ints)

-- t is seen from s between r and p, and not beyond r-p: then it is inside the other two sides
pub within_two : (S : List Point) (p q r s t : ℕ) → pos 0 <ℤ orientation S p q r → IsEnclosed S p q r s → pos 0 <ℤ orientation S s r t → pos 0 <ℤ orientation S s t p → pos 0 ≤ℤ orientation S r p t
    → (pos 0 <ℤ orientation S p q t) × (pos 0 <ℤ orientation S q r t)
within_two S p q r s t ccw in_ left right near =
    let o = orientation S in let B = IsBetween S in let L = plane_laws S in (
      high_sum (o p s r) (o p q t) (o p t r) (o p q s) (o p s t) (o p q r) (L.five p q s t r) (rot o B L r p s in_.third) (let e = L.cycle r p t in let f = L.cycle p t r in near_side p r t near) in_.first (rot_back o B L s t p right) ccw,
      second_side S p q r s t ccw in_ (rot o B L s r t left) near,
    )
  where
    near_side : (p r t : ℕ) → pos 0 ≤ℤ orientation S r p t → pos 0 ≤ℤ orientation S p t r
    near_side p r t h = let e = (plane_laws S).cycle r p t in omega (arith, ints)
