-- The nearest point on a ray, and a point to the left of each line through an inner point.
use Rattle.std.proofs.Common.{◌≡◌, ◌≢◌, ℕ, zero, suc, ◌<◌, ◌≤◌, ◌⊎◌, inl, inr, ℤ, pos, neg_ℤ, List, length, sym, refl, subst, arith}
use Rattle.std.specs.Prelude.{◌<ℤ◌, ◌≤ℤ◌, ◌-ℤ◌}
use Rattle.std.proofs.lemmas.Int.{ints}
use Rattle.plane.specs.declared.coordinates.Point.{Point}
use Rattle.plane.specs.Geometry.{point, area, scalar, orientation, LiesBetween, IsBetween, IsClear, IsInner}
use Rattle.plane.specs.Accepted.{AreAccepted}
use Rattle.plane.proofs.laws.Line.{same_point}
use Rattle.plane.proofs.laws.Along.{between_swap, between_or_not, other_side, other_side_right}
use Rattle.plane.proofs.laws.Area.{area_cycle, area_swap, area_back}
use Rattle.plane.proofs.laws.Border.{points_differ}
use Rattle.number_laws.proofs.Naturals.{below_or_last}
use Rattle.number_laws.proofs.Signs.{by_sign, zero_right, not_positive, square_at_least}
use Rattle.plane_laws.specs.Order.{IsBefore}
use Rattle.plane_laws.proofs.Order.{before_trans}
use Rattle.plane_laws.proofs.Orientations.{area_four, in_line}
use Rattle.plane_laws.proofs.Between.{by_order, between_is_amid, amid_is_between}

-- the areas of a line's points, with p first
back_zero : (p k r : Point) → area p k r ≡ pos 0 → area p r k ≡ pos 0
back_zero p k r h = omega (arith, ints, area_cycle k p r, area_back p k r)

-- the same where p comes before r
between_nearer_up : (p j k r : Point) → IsBefore p r → LiesBetween k p r → LiesBetween j p k → LiesBetween j p r
between_nearer_up p j k r b hk hj =
    let ak : IsBefore p k × IsBefore k r = between_is_amid k p r b hk.0 hk.1 in
    let aj : IsBefore p j × IsBefore j k = between_is_amid j p k ak.0 hj.0 hj.1 in
    let line : area p j r ≡ pos 0 = in_line p k j r ak.0 (back_zero p j k hj.0) hk.0 in
    (line, amid_is_between j p r aj.0 (before_trans j k r aj.1 ak.1) line)

-- and where r comes before p
between_nearer_down : (p j k r : Point) → IsBefore r p → LiesBetween k p r → LiesBetween j p k → LiesBetween j p r
between_nearer_down p j k r b hk hj =
    let sk : LiesBetween k r p = between_swap k p r hk in
    let ak : IsBefore r k × IsBefore k p = between_is_amid k r p b sk.0 sk.1 in
    let sj : LiesBetween j k p = between_swap j p k hj in
    let aj : IsBefore k j × IsBefore j p = between_is_amid j k p ak.1 sj.0 sj.1 in
    let line1 : area k r p ≡ pos 0 = omega (arith, ints, area_cycle p k r, area_cycle k r p, area_cycle r p k, back_zero r k p sk.0) in
    let line2 : area k p r ≡ pos 0 = back_zero k r p line1 in
    let line3 : area k p j ≡ pos 0 = back_zero k j p sj.0 in
    let line4 : area k j r ≡ pos 0 = in_line k p j r ak.1 line3 line2 in
    let line : area r j p ≡ pos 0 = omega (arith, ints, area_four r k j p, area_four r j k p, sk.0, sj.0, area_cycle r k j, area_cycle k j r, area_cycle j r k, area_back r j k, area_back r k j, line4, area_cycle j k p, area_cycle k p j, area_back j k p, line3) in
    between_swap j r p (line, amid_is_between j r p (before_trans r k j ak.0 aj.0) aj.1 line)

-- a point between p and one between p and r is between p and r
pub between_nearer : (p j k r : Point) → p ≢ r → LiesBetween k p r → LiesBetween j p k → LiesBetween j p r
between_nearer p j k r apart hk hj =
    by_order p r (λ b. between_nearer_up p j k r b hk hj) (λ ex ey. absurd (apart (same_point p r ex ey))) (λ b. between_nearer_down p j k r b hk hj)

-- b is r or on the way from p to r
abbrev pub IsOnWay : List Point → (p r b : ℕ) → Type 0
IsOnWay S p r b = (b ≡ r) ⊎ IsBetween S b p r

-- what a walk over the points below k leaves: no point met is nearer to p
record IsNearest (S : List Point) (p r k : ℕ) : Type 0 where
  pub b : ℕ
  pub within : b < length S
  pub apart : b ≢ p
  pub way : IsOnWay S p r b
  pub none : (j : ℕ) → j < k → ¬ IsBetween S j p b

scalar_square : (p q : Point) → pos 0 ≤ℤ scalar p q q
unfolding scalar
scalar_square p q = omega (arith, ints, square_at_least (q.x -ℤ p.x), square_at_least (q.y -ℤ p.y))

-- no point is between another and this one itself
pub not_between_one : (p q : Point) → ¬ LiesBetween p q q
not_between_one p q h = omega (arith, ints, h.1, scalar_square p q)

-- a step has no length along the step to its own start
scalar_itself : (k a : Point) → scalar k a k ≡ pos 0
unfolding scalar
scalar_itself k a = omega (arith, ints, zero_right (a.x -ℤ k.x) (k.x -ℤ k.x) (omega (arith, ints)), zero_right (a.y -ℤ k.y) (k.y -ℤ k.y) (omega (arith, ints)))

-- no end of a segment is strictly between its ends
pub not_second_end : (S : List Point) (p b : ℕ) → ¬ IsBetween S p b p
not_second_end S p b h = omega (arith, ints, h.1, scalar_itself (point S p) (point S b))

pub not_first_end : (S : List Point) (p b : ℕ) → ¬ IsBetween S p p b
not_first_end S p b h = not_second_end S p b (between_swap (point S p) (point S p) (point S b) h)

nearest_below : (S : List Point) (p r k : ℕ) → AreAccepted S → p < length S → r < length S → r ≢ p → k ≤ length S → IsNearest S p r k
nearest_below S p r zero ok pn rn ne h = record { b = r; within = rn; apart = ne; way = inl refl; none = λ j l. absurd (omega arith) }
nearest_below S p r (suc k) ok pn rn ne h =
    let s : IsNearest S p r k = nearest_below S p r k ok pn rn ne (omega arith) in
    elim (between_or_not S k p s.b) [
      | inl hit ↦ record {
        b = k;
        within = omega arith;
        apart = λ e. not_first_end S p s.b (subst (λ x. IsBetween S x p s.b) e hit);
        way = inr (elim s.way [
          | inl e ↦ subst (λ x. IsBetween S k p x) e hit
          | inr w ↦ between_nearer (point S p) (point S k) (point S s.b) (point S r) (points_differ S p r ok.apart pn rn (λ e. ne (sym e))) w hit
        ]);
        none = λ j l. elim (below_or_last j k (omega (arith, l))) [
          | inl m ↦ λ g. s.none j m (between_nearer (point S p) (point S j) (point S k) (point S s.b) (points_differ S p s.b ok.apart pn s.within (λ e. s.apart (sym e))) hit g)
          | inr e ↦ λ g. not_second_end S k p (subst (λ x. IsBetween S x p k) e g)
        ];
      }
      | inr miss ↦ record {
        b = s.b;
        within = s.within;
        apart = s.apart;
        way = s.way;
        none = λ j l. elim (below_or_last j k (omega (arith, l))) [ inl m ↦ s.none j m | inr e ↦ λ g. miss (subst (λ x. IsBetween S x p s.b) e g) ];
      }
    ]

-- the nearest point on the way from p to r
pub record HasNearest (S : List Point) (p r : ℕ) : Type 0 where
  pub b : ℕ
  pub within : b < length S
  pub apart : b ≢ p
  pub way : IsOnWay S p r b
  pub clear : IsClear S p b

pub nearest : (S : List Point) (p r : ℕ) → AreAccepted S → p < length S → r < length S → r ≢ p → HasNearest S p r
nearest S p r ok pn rn ne =
    let s : IsNearest S p r (length S) = nearest_below S p r (length S) ok pn rn ne (omega arith) in
    record { b = s.b; within = s.within; apart = s.apart; way = s.way; clear = λ k l g. s.none k l g }

-- Of r and a point b between p and r: the signs of their orientations about p agree.
sign_numbers : (A B C : ℤ) → C ≡ A -ℤ B → (B <ℤ pos 0 → C <ℤ pos 0) → (pos 0 <ℤ B → pos 0 <ℤ C) → (pos 0 <ℤ A → pos 0 <ℤ C) × (pos 0 <ℤ C → pos 0 <ℤ A)
sign_numbers A B C e low high =
    by_sign B
    (λ h. let c : pos 0 <ℤ C = high h in (λ _. c, λ _. omega (arith, ints)))
    (λ h. (λ a. omega (arith, ints), λ c. omega (arith, ints)))
    (λ h. let c : C <ℤ pos 0 = low h in (λ a. absurd (omega (arith, ints)), λ g. absurd (omega (arith, ints))))

signs_agree : (p q b r : Point) → LiesBetween b p r → (pos 0 <ℤ area p q r → pos 0 <ℤ area p q b) × (pos 0 <ℤ area p q b → pos 0 <ℤ area p q r)
signs_agree p q b r h =
    sign_numbers (area p q r) (area b q r) (area p q b)
    (omega (arith, ints, area_four p q b r, h.0, area_back b q r, area_back p b r))
    (λ l. let s : pos 0 <ℤ area b q p = other_side b p r q h l in omega (arith, ints, area_cycle b q p, area_cycle q p b, area_back p q b, area_back b q p))
    (λ l. let s : area b q p <ℤ pos 0 = other_side_right b p r q h l in omega (arith, ints, area_cycle b q p, area_cycle q p b, area_back p q b, area_back b q p))

pub sign_on_way : (S : List Point) (p q r b : ℕ) → IsOnWay S p r b → (pos 0 <ℤ orientation S p q r → pos 0 <ℤ orientation S p q b) × (pos 0 <ℤ orientation S p q b → pos 0 <ℤ orientation S p q r)
sign_on_way S p q r b (inl e) = (λ h. subst (λ x. pos 0 <ℤ orientation S p q x) (sym e) h, λ h. subst (λ x. pos 0 <ℤ orientation S p q x) e h)
sign_on_way S p q r b (inr h) = signs_agree (point S p) (point S q) (point S b) (point S r) h

-- Some point is strictly left of each line through an inner point.
below_left : (S : List Point) (p q k : ℕ) → k ≤ length S → ((r : ℕ) × (r < length S) × (pos 0 <ℤ orientation S p q r)) ⊎ ((r : ℕ) → r < k → orientation S p q r ≤ℤ pos 0)
below_left S p q zero h = inr (λ r l. absurd (omega arith))
below_left S p q (suc k) h =
    elim (below_left S p q k (omega arith)) [
      | inl f ↦ inl f
      | inr f ↦ by_sign (orientation S p q k)
          (λ g. inl (k, omega arith, g))
          (λ g. inr (λ r l. elim (below_or_last r k (omega (arith, l))) [ inl m ↦ f r m | inr e ↦ subst (λ x. orientation S p q x ≤ℤ pos 0) (sym e) (omega (arith, ints)) ]))
          (λ g. inr (λ r l. elim (below_or_last r k (omega (arith, l))) [ inl m ↦ f r m | inr e ↦ subst (λ x. orientation S p q x ≤ℤ pos 0) (sym e) (omega (arith, ints)) ]))
    ]

-- with no point strictly left of p to q, none is strictly left of p to the nearest point on the way
none_left : (S : List Point) (p q b r : ℕ) → IsOnWay S p q b → orientation S p q r ≤ℤ pos 0 → orientation S p b r ≤ℤ pos 0
none_left S p q b r (inl e) h = subst (λ x. orientation S p x r ≤ℤ pos 0) (sym e) h
none_left S p q b r (inr w) h =
    not_positive (orientation S p b r) (λ g.
    let down : area (point S p) (point S r) (point S b) <ℤ pos 0 = omega (arith, ints, area_swap (point S p) (point S r) (point S b)) in
    let up : orientation S p r q ≡ neg_ℤ (orientation S p q r) = area_swap (point S p) (point S r) (point S q) in
    by_sign (area (point S b) (point S r) (point S q))
    (λ s. let t : area (point S b) (point S r) (point S p) <ℤ pos 0 = other_side_right (point S b) (point S p) (point S q) (point S r) w s in
    omega (arith, ints, area_cycle (point S b) (point S r) (point S p), area_cycle (point S r) (point S p) (point S b), area_back (point S p) (point S r) (point S b), area_back (point S b) (point S r) (point S p)))
    (λ s. omega (arith, ints, area_four (point S p) (point S r) (point S b) (point S q), w.0, area_back (point S p) (point S b) (point S q), area_back (point S b) (point S r) (point S q)))
    (λ s. omega (arith, ints, area_four (point S p) (point S r) (point S b) (point S q), w.0, area_back (point S p) (point S b) (point S q), area_back (point S b) (point S r) (point S q))))

pub left_of_inner : (S : List Point) (p q : ℕ) → AreAccepted S → p < length S → q < length S → q ≢ p → IsInner S p → (r : ℕ) × (r < length S) × (pos 0 <ℤ orientation S p q r)
left_of_inner S p q ok pn qn ne inner =
    elim (below_left S p q (length S) (omega arith)) [
      | inl h ↦ h
      | inr f ↦ (let b : HasNearest S p q = nearest S p q ok pn qn ne in
          absurd (inner b.b b.within b.apart (b.clear, inr (λ k l. (let g : orientation S p b.b k ≤ℤ pos 0 = none_left S p q b.b k b.way (f k l) in omega (arith, ints, area_back (point S b.b) (point S p) (point S k)))))))
    ]
