-- The points as they are, and turned by half a turn, and the steps on the border in either.
use Rattle.std.proofs.Common.{◌≡◌, ◌≢◌, ℕ, ◌<◌, Bool, true, false, List, length, ℤ, pos, ◌-ℤ◌, neg_ℤ, ◌<ℤ◌, ◌≤ℤ◌, inl, inr, arith, sym, ap, refl}
use Rattle.std.proofs.lemmas.Int.{ints}
use Rattle.plane.proofs.laws.Line.{same_point}
use Rattle.number_laws.proofs.Products.{neg_mul_neg}
use Rattle.plane.proofs.laws.Area.{area_back, area_swap}
use Rattle.plane.proofs.laws.Along.{between_swap}
use Rattle.plane.proofs.laws.Border.{points_differ}
use Rattle.plane.specs.declared.coordinates.Point.{Point}
use Rattle.plane.specs.declared.coordinates.Turn.TheVariants.{Left}
use Rattle.plane.specs.Geometry.{point, area}
use Rattle.plane.specs.Hull.{IsBorderStep}
use Rattle.plane.specs.Accepted.{AreAccepted}
use Rattle.plane_laws.specs.Order.{IsBefore}
use Rattle.plane_laws.proofs.Between.{between_is_amid, amid_is_between}
use Rattle.border.specs.Walk.{turned, seen}
use Rattle.border.specs.Chain.{IsLower}
use Rattle.border.proofs.Lower.{not_self}
use Rattle.number_laws.proofs.Naturals.{equal_or_not}

difference : (a b : ℤ) → neg_ℤ b -ℤ neg_ℤ a ≡ neg_ℤ (b -ℤ a)
difference a b = omega (arith, ints)

pub area_turned : (b : Bool) (p q r : Point) → area (turned b p) (turned b q) (turned b r) ≡ area p q r
unfolding area
area_turned true p q r = refl
area_turned false p q r =
    rw (difference p.x q.x, difference p.y r.y, difference p.y q.y, difference p.x r.x, neg_mul_neg (q.x -ℤ p.x) (r.y -ℤ p.y), neg_mul_neg (q.y -ℤ p.y) (r.x -ℤ p.x)) refl

pub back_turned : (p q : Point) → IsBefore (turned false p) (turned false q) → IsBefore q p
back_turned p q (inl h) = inl (omega (arith, ints))
back_turned p q (inr h) = inr (omega (arith, ints, h.0), omega (arith, ints, h.1))

pub turned_back : (p q : Point) → IsBefore q p → IsBefore (turned false p) (turned false q)
turned_back p q (inl h) = inl (omega (arith, ints))
turned_back p q (inr h) = inr (omega (arith, ints, h.0), omega (arith, ints, h.1))

apart_of : (S : List Point) (v w : ℕ) → IsBefore (point S v) (point S w) → w ≢ v
apart_of S v w h e = not_self (point S v) (point S w) (ap (λ i. (point S i).x) (sym e)) (ap (λ i. (point S i).y) (sym e)) h

-- a lower step is a step on the border, counterclockwise
pub step_of : (S : List Point) (b : Bool) (v w : ℕ) → IsLower (seen S b) (length S) v w → IsBorderStep S Left v w
step_of S true v w low = record {
  within = low.within;
  apart = apart_of S v w low.leads;
  clear = λ k hk on. (let amid = between_is_amid (point S k) (point S v) (point S w) low.leads on.0 on.1 in let e = area_swap (point S v) (point S k) (point S w) in low.clear k hk amid.0 amid.1 (omega (arith, ints, on.0, e)));
  all = low.left;
}
step_of S false v w low =
    let leads = back_turned (point S v) (point S w) low.leads in
    record {
      within = low.within;
      apart = λ e. apart_of S w v leads (sym e);
      clear = λ k hk on. (let on' = between_swap (point S k) (point S v) (point S w) on in
          let amid = between_is_amid (point S k) (point S w) (point S v) leads on'.0 on'.1 in let e = area_swap (point S v) (point S k) (point S w) in let t = area_turned false (point S v) (point S w) (point S k) in
          low.clear k hk (turned_back (point S v) (point S k) amid.1) (turned_back (point S k) (point S w) amid.0) (omega (arith, ints, on.0, e, t)));
      all = λ k hk. (let t = area_turned false (point S v) (point S w) (point S k) in omega (arith, ints, t, low.left k hk));
    }

pub lower_of : (S : List Point) (b : Bool) (v w : ℕ) → IsBorderStep S Left v w → IsBefore (seen S b v) (seen S b w) → IsLower (seen S b) (length S) v w
lower_of S true v w step leads = record {
  within = step.within;
  leads = leads;
  left = step.all;
  clear = λ k hk vk kw z. (let e = area_swap (point S v) (point S w) (point S k) in let line : area (point S v) (point S k) (point S w) ≡ pos 0 = omega (arith, ints) in
      step.clear k hk (line, amid_is_between (point S k) (point S v) (point S w) vk kw line));
}
lower_of S false v w step leads = record {
  within = step.within;
  leads = leads;
  left = λ k hk. (let t = area_turned false (point S v) (point S w) (point S k) in omega (arith, ints, t, step.all k hk));
  clear = λ k hk vk kw z. (let t = area_turned false (point S v) (point S w) (point S k) in let e = area_back (point S w) (point S v) (point S k) in let f = area_swap (point S w) (point S v) (point S k) in
      let line : area (point S w) (point S k) (point S v) ≡ pos 0 = omega (arith, ints) in
      step.clear k hk (between_swap (point S k) (point S w) (point S v) (line, amid_is_between (point S k) (point S w) (point S v) (back_turned (point S k) (point S w) kw) (back_turned (point S v) (point S k) vk) line)));
}

not_positive : (z : ℤ) → ¬ (pos 0 <ℤ z) → z ≤ℤ pos 0
not_positive z h = grind (arith, ints)

-- points at one place are one
pub same_place : (S : List Point) (b : Bool) (i j : ℕ) → AreAccepted S → i < length S → j < length S → (seen S b i).x ≡ (seen S b j).x → (seen S b i).y ≡ (seen S b j).y → i ≡ j
same_place S true i j accepted hi hj ex ey = elim (equal_or_not i j) [ inl e ↦ e | inr ne ↦ absurd (points_differ S i j accepted.apart hi hj ne (same_point (point S i) (point S j) ex ey)) ]
same_place S false i j accepted hi hj ex ey = elim (equal_or_not i j) [ inl e ↦ e | inr ne ↦ absurd (points_differ S i j accepted.apart hi hj ne (same_point (point S i) (point S j) (omega (arith, ints)) (omega (arith, ints)))) ]
