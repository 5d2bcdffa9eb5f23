-- The points of the plane obey the laws of signs.
use Rattle.std.proofs.Common.{◌≡◌, ◌≢◌, ℤ, pos, neg_ℤ, ◌+ℤ◌, ◌*ℤ◌, inl, inr, List, sym, ◌∙◌, ap, arith}
use Rattle.std.specs.Prelude.{◌<ℤ◌, ◌≤ℤ◌}
use Rattle.std.proofs.lemmas.Int.{ints}
use Rattle.plane.specs.declared.coordinates.Point.{Point}
use Rattle.plane.specs.Geometry.{point, area, orientation, LiesBetween, IsBetween}
use Rattle.plane.proofs.laws.Along.{between_swap, other_side, other_side_right, one_between}
use Rattle.plane.proofs.laws.Area.{area_cycle, area_swap, area_back, area_first, area_second}
use Rattle.number_laws.proofs.Signs.{zero_right, zero_not_positive, positive_same, turned_high, turned_low, not_both_positive}
use Rattle.plane_laws.proofs.Orientations.{area_four}
use Rattle.plane_laws.proofs.Separation.{weigh}
use Rattle.plane_laws.proofs.Field.{Laws, by_high}

cycle : (p q r : Point) → area q r p ≡ area p q r
cycle p q r = sym (area_cycle p q r)

dropped : (w x y z : ℤ) → w ≡ pos 0 → w +ℤ x ≡ y +ℤ z → x ≡ y +ℤ z
dropped w x y z e h = omega (arith, ints)

-- five points
five : (a b c d e : Point) → area a c e *ℤ area a b d ≡ area a d e *ℤ area a b c +ℤ area a c d *ℤ area a b e
five a b c d e =
    dropped (area c d e *ℤ area a b a) (area a c e *ℤ area a b d) (area a d e *ℤ area a b c) (area a c d *ℤ area a b e)
    (zero_right (area c d e) (area a b a) (area_first a b)) (weigh a b a c d e)

turned_zero : (x y : ℤ) → y ≡ neg_ℤ x → x ≡ pos 0 → y ≡ pos 0
turned_zero x y e h = omega (arith, ints)

on : (k c d : Point) → LiesBetween k c d → area c d k ≡ pos 0
on k c d h = turned_zero (area c k d) (area c d k) (area_swap c d k) h.0

sum_signs : (s a b : ℤ) → s ≡ a +ℤ b → pos 0 <ℤ s → a ≤ℤ pos 0 → pos 0 <ℤ b
sum_signs s a b e h k = omega (arith, ints)

split_sum : (s a b z z2 : ℤ) → s +ℤ z ≡ a +ℤ b → z ≡ pos 0 → s ≡ a +ℤ b
split_sum s a b z z2 e h = omega (arith, ints)

-- k between c and d cuts the triangle x c d in two
cut : (x k c d : Point) → LiesBetween k c d → pos 0 <ℤ area x c d → (pos 0 <ℤ area x c k) × (pos 0 <ℤ area x k d)
cut x k c d h whole =
    let flat : area c k d ≡ pos 0 = h.0 in
    let sum : area x c d ≡ area x c k +ℤ area x k d = sums (area x c k) (area x k d) (area x c d) (area c k d) (area_four x c k d) flat in
    by_high (area x c k)
    (λ s. (s, turned_high (area k x d) (area x k d) (area_back k x d) (other_side_right k d c x (between_swap k c d h) (positive_same (area x c k) (area k x c) (cycle k x c) s))))
    (λ s. (let t : pos 0 <ℤ area x k d = sum_signs (area x c d) (area x c k) (area x k d) sum whole s in
    let u : pos 0 <ℤ area k x c = other_side k c d x h (turned_low (area x k d) (area k x d) (area_back x k d) t) in
    (positive_same (area k x c) (area x c k) (sym (cycle k x c)) u, t)))
  where
    sums : (a b s z : ℤ) → a +ℤ b ≡ s +ℤ z → z ≡ pos 0 → s ≡ a +ℤ b
    sums a b s z e g = omega (arith, ints)

-- r in line with u and v, and these on the two sides of a line through r: then r is between them
found : (x u v r : Point) → area u v r ≡ pos 0 → pos 0 <ℤ area r x v → pos 0 <ℤ area x r u → LiesBetween r u v
found x u v r flat right left =
    let line : area u r v ≡ pos 0 = turned_zero (area u v r) (area u r v) (area_swap u r v) flat in
    let xuv : pos 0 <ℤ area x r u = left in
    elim (one_between r u v ru rv uv (sym (cycle r u v) ∙ flat)) [
      | inl h ↦ h
      | inr rest ↦ elim rest [
        | inl h ↦ (let (p, q) = cut x u v r (between_swap u r v h) (positive_same (area r x v) (area x v r) (sym (cycle r x v)) right) in
            not_both_positive (area x u r) (area x r u) (area_swap x u r) q left)
        | inr h ↦ (let (p, q) = cut x v r u h left in
            not_both_positive (area x r v) (area r x v) (area_back x r v) p right)
      ]
    ]
  where
    ru : r ≢ u
    ru e = zero_not_positive (area x r r) (area_second x r) (positive_same (area x r u) (area x r r) (ap (λ (z : Point). area x r z) (sym e)) left)

    rv : r ≢ v
    rv e = zero_not_positive (area r x r) (area_first r x) (positive_same (area r x v) (area r x r) (ap (λ (z : Point). area r x z) (sym e)) right)

    uv : u ≢ v
    uv e = not_both_positive (area x r u) (area r x u) (area_back x r u) left (positive_same (area r x v) (area r x u) (ap (λ (z : Point). area r x z) (sym e)) right)

-- the points of a list
pub plane_laws : (S : List Point) → Laws (orientation S) (IsBetween S)
plane_laws S = record {
  cycle = λ i j k. cycle (point S i) (point S j) (point S k);
  swap = λ i j k. area_back (point S j) (point S i) (point S k);
  four = λ p q r s. area_four (point S p) (point S q) (point S r) (point S s);
  five = λ a b c d e. five (point S a) (point S b) (point S c) (point S d) (point S e);
  on = λ k c d h. on (point S k) (point S c) (point S d) h;
  cut = λ x k c d h g. cut (point S x) (point S k) (point S c) (point S d) h g;
  found = λ x u v r h f g. found (point S x) (point S u) (point S v) (point S r) h f g;
}
