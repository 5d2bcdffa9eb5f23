-- Two walks, there and back, make the cycle of the border.
use Rattle.std.proofs.Common.{◌≡◌, ◌≢◌, ℕ, zero, suc, ◌+◌, ◌-◌, ◌<◌, ◌≤◌, true, false, List, [], ◌∷◌, ◌++◌, length, length-append, ◌⊎◌, inl, inr, arith, sym, ◌∙◌, ap, subst, subst₂, refl}
use Rattle.std.specs.List.{AllPairs, ReversedBelow}
use Rattle.std.proofs.lemmas.Bool.{cases_lt}
use Rattle.std.proofs.lemmas.List.{get_or_default, get_or_append_left, get_or-append-add, get_or_push, length_push}
use Rattle.plane.specs.declared.coordinates.Point.{Point}
use Rattle.plane.specs.declared.coordinates.Turn.TheVariants.{Left}
use Rattle.plane.specs.Geometry.{point}
use Rattle.plane.specs.Hull.{IsBorderStep}
use Rattle.plane.specs.Accepted.{AreAccepted}
use Rattle.plane.proofs.laws.Border.{border_of_left, step_of_border, inner_by_steps, not_inner_left, border_back, left_step_once, left_of_right}
use Rattle.plane_laws.specs.Order.{IsBefore}
use Rattle.plane_laws.proofs.Between.{by_order}
use Rattle.border.specs.Cycle.{at, after, IsBorderCycle}
use Rattle.border.specs.Walk.{seen, AreFirstAndLast, IsTrail, HasWalked}
use Rattle.border.specs.Chain.{IsInOrder}
use Rattle.border.proofs.Lower.{not_self}
use Rattle.border.proofs.Turned.{turned_back, back_turned, same_place}
use Rattle.border.proofs.Ordered.{ends_of, order_turned}
use Rattle.border.proofs.Trails.{trail_order, trail_inside, trail_meets}
use Rattle.plane_laws.proofs.Order.{before_asym}
use Rattle.number_laws.proofs.Naturals.{equal_or_not}

after_more : (n i : ℕ) → i + 1 < n → after n i ≡ i + 1
after_more n i h = grind arith

after_last : (n i : ℕ) → n ≤ i + 1 → after n i ≡ 0
after_last n i h = grind arith

found : (B : List ℕ) (v n : ℕ) → ((i : ℕ) × (i < n) × (at B i ≡ v)) ⊎ ((i : ℕ) → i < n → at B i ≢ v)
found B v zero = inr (λ i h e. omega arith)
found B v (suc n) = elim (found B v n) [
  | inl (i, h, e) ↦ inl (i, omega arith, e)
  | inr none ↦ elim (equal_or_not (at B n) v) [ inl e ↦ inl (n, omega arith, e) | inr ne ↦ inr (λ i h e. elim (equal_or_not i n) [ inl s ↦ ne (ap (at B) (sym s) ∙ e) | inr d ↦ none i (omega arith) e ]) ]
]

-- what two walks give
record Round (S : List Point) (m M : ℕ) (B : List ℕ) : Type 0 where
  accepted : AreAccepted S
  steps : (i : ℕ) → i < length B → IsBorderStep S Left (at B i) (at B (after (length B) i))
  inside : (i : ℕ) → i < length B → at B i < length S
  next_in : (i : ℕ) → i < length B → after (length B) i < length B
  begins : at B 0 ≡ m
  distinct : AllPairs (λ v w. v ≢ w) B
  covered : (v w : ℕ) → v < length S → IsBorderStep S Left v w → (i : ℕ) × (i < length B) × (at B i ≡ v)

round_of : (S : List Point) (m M : ℕ) (C D : List ℕ) → AreAccepted S → AreFirstAndLast S true m M → AreFirstAndLast S false M m → 0 < length C → 0 < length D → IsTrail S true m (C ++ M ∷ []) → IsTrail S false M (D ++ m ∷ []) → Round S m M (C ++ D)
round_of S m M C D accepted there back some_c some_d up down =
    let B = C ++ D in
    let len : length B ≡ length C + length D = length-append C D in
    let len_c = length_push C M in let len_d = length_push D m in
    let low : (i : ℕ) → i < length C → at B i ≡ at (C ++ M ∷ []) i = λ i h. get_or_append_left C D 0 i h ∙ sym (get_or_append_left C (M ∷ []) 0 i h) in
    let high : (i : ℕ) → i < length D → at B (length C + i) ≡ at (D ++ m ∷ []) i = λ i h. get_or-append-add C D i 0 ∙ sym (get_or_append_left D (m ∷ []) 0 i h) in
    let top_c : at (C ++ M ∷ []) (length C) ≡ M = get_or_push C M 0 (length C) refl in
    let top_d : at (D ++ m ∷ []) (length D) ≡ m = get_or_push D m 0 (length D) refl in
    let zero_c : at B 0 ≡ m = low 0 some_c ∙ up.begins in
    let zero_d : at B (length C + 0) ≡ M = high 0 some_d ∙ down.begins in
    let next_low : (i : ℕ) → i < length C → at B (after (length B) i) ≡ at (C ++ M ∷ []) (i + 1) = λ i h.
    (let a = ap (at B) (after_more (length B) i (omega arith)) in elim (cases_lt (i + 1) (length C)) [
      | inl l ↦ a ∙ low (i + 1) l
      | inr l ↦ (let e : i + 1 ≡ length C + 0 = omega arith in let f : length C ≡ i + 1 = omega arith in a ∙ ap (at B) e ∙ zero_d ∙ sym top_c ∙ ap (at (C ++ M ∷ [])) f)
    ]) in
    let next_high : (i : ℕ) → i < length D → at B (after (length B) (length C + i)) ≡ at (D ++ m ∷ []) (i + 1) = λ i h. elim (cases_lt (i + 1) (length D)) [
      | inl l ↦ (let e : length C + i + 1 ≡ length C + (i + 1) = omega arith in ap (at B) (after_more (length B) (length C + i) (omega arith) ∙ e) ∙ high (i + 1) l)
      | inr l ↦ (let f : length D ≡ i + 1 = omega arith in ap (at B) (after_last (length B) (length C + i) (omega arith)) ∙ zero_c ∙ sym top_d ∙ ap (at (D ++ m ∷ [])) f)
    ] in
    let step_low : (i : ℕ) → i < length C → IsBorderStep S Left (at B i) (at B (after (length B) i)) = λ i h.
    subst (λ x. IsBorderStep S Left x (at B (after (length B) i))) (sym (low i h)) (subst (λ y. IsBorderStep S Left (at (C ++ M ∷ []) i) y) (sym (next_low i h)) (up.steps i (omega arith))) in
    let step_high : (i : ℕ) → i < length D → IsBorderStep S Left (at B (length C + i)) (at B (after (length B) (length C + i))) = λ i h.
    subst (λ x. IsBorderStep S Left x (at B (after (length B) (length C + i)))) (sym (high i h)) (subst (λ y. IsBorderStep S Left (at (D ++ m ∷ []) i) y) (sym (next_high i h)) (down.steps i (omega arith))) in
    let split : (P : ℕ → Type 0) → ((i : ℕ) → i < length C → P i) → ((i : ℕ) → i < length D → P (length C + i)) → (i : ℕ) → i < length B → P i = λ P a b i h. elim (cases_lt i (length C)) [
      | inl l ↦ a i l
      | inr l ↦ (let e : length C + (i - length C) ≡ i = omega arith in subst P e (b (i - length C) (omega arith)))
    ] in
    let in_low : (i : ℕ) → i < length C → at B i < length S = λ i h. subst (λ x. x < length S) (sym (low i h)) (trail_inside S true m (C ++ M ∷ []) up there.from_in i (omega arith)) in
    let in_high : (i : ℕ) → i < length D → at B (length C + i) < length S = λ i h. subst (λ x. x < length S) (sym (high i h)) (trail_inside S false M (D ++ m ∷ []) down back.from_in i (omega arith)) in
    let low_low : (i j : ℕ) → i < j → j < length C → at B i ≢ at B j = λ i j ij h e.
    (let f : at (C ++ M ∷ []) i ≡ at (C ++ M ∷ []) j = sym (low i (omega arith)) ∙ e ∙ low j h in
    not_self (seen S true (at (C ++ M ∷ []) j)) (seen S true (at (C ++ M ∷ []) j)) refl refl (subst (λ x. IsBefore (seen S true x) (seen S true (at (C ++ M ∷ []) j))) f (trail_order S true m (C ++ M ∷ []) up i j ij (omega arith)))) in
    let high_high : (i j : ℕ) → i < j → j < length D → at B (length C + i) ≢ at B (length C + j) = λ i j ij h e.
    (let f : at (D ++ m ∷ []) i ≡ at (D ++ m ∷ []) j = sym (high i (omega arith)) ∙ e ∙ high j h in
    not_self (seen S false (at (D ++ m ∷ []) j)) (seen S false (at (D ++ m ∷ []) j)) refl refl (subst (λ x. IsBefore (seen S false x) (seen S false (at (D ++ m ∷ []) j))) f (trail_order S false M (D ++ m ∷ []) down i j ij (omega arith)))) in
    let low_high : (i j : ℕ) → i < length C → j < length D → at B i ≢ at B (length C + j) = λ i j hi hj e.
    (let v = at (C ++ M ∷ []) i in let w = at (D ++ m ∷ []) j in
    let f : w ≡ v = sym (high j hj) ∙ sym e ∙ low i hi in
    let one = up.steps i (omega arith) in
    let two : IsBorderStep S Left v (at (D ++ m ∷ []) (j + 1)) = subst (λ x. IsBorderStep S Left x (at (D ++ m ∷ []) (j + 1))) f (down.steps j (omega arith)) in
    let g = left_step_once S v (at (C ++ M ∷ []) (i + 1)) (at (D ++ m ∷ []) (j + 1)) accepted (trail_inside S true m (C ++ M ∷ []) up there.from_in i (omega arith)) one two in
    let on = up.rises i (omega arith) in
    let off = back_turned (point S w) (point S (at (D ++ m ∷ []) (j + 1))) (down.rises j (omega arith)) in
    before_asym (point S v) (point S (at (C ++ M ∷ []) (i + 1))) on (subst (λ y. IsBefore (point S y) (point S v)) (sym g) (subst (λ x. IsBefore (point S (at (D ++ m ∷ []) (j + 1))) (point S x)) f off))) in
    record {
      accepted = accepted;
      steps = split (λ i. IsBorderStep S Left (at B i) (at B (after (length B) i))) step_low step_high;
      inside = split (λ i. at B i < length S) in_low in_high;
      next_in = λ i h. elim (cases_lt (i + 1) (length B)) [ inl l ↦ (let e = after_more (length B) i l in omega arith) | inr l ↦ (let e = after_last (length B) i l in omega arith) ];
      begins = zero_c;
      distinct = λ i j d ij h e. (let f = get_or_default B i d 0 (omega arith) in let g = get_or_default B j d 0 h in let k : at B i ≡ at B j = sym f ∙ e ∙ g in
          elim (cases_lt j (length C)) [
            | inl l ↦ low_low i j ij l k
            | inr l ↦ (let t : length C + (j - length C) ≡ j = omega arith in elim (cases_lt i (length C)) [
              | inl r ↦ low_high i (j - length C) r (omega arith) (k ∙ ap (at B) (sym t))
              | inr r ↦ (let s : length C + (i - length C) ≡ i = omega arith in high_high (i - length C) (j - length C) (omega arith) (omega arith) (ap (at B) s ∙ k ∙ ap (at B) (sym t)))
            ])
          ]);
      covered = λ v w hv step. by_order (point S v) (point S w)
          (λ on. (let (i, h, e) = trail_meets S true m M v w C accepted there up hv step on in (i, omega arith, low i h ∙ e)))
          (λ ex ey. absurd (step.apart (sym (same_place S true v w accepted hv step.within ex ey))))
          (λ off. (let (i, h, e) = trail_meets S false M m v w D accepted back down hv step (turned_back (point S v) (point S w) off) in (length C + i, omega arith, high i h ∙ e)));
    }

cycle_from : (S : List Point) (m M : ℕ) (B : List ℕ) → AreFirstAndLast S true m M → Round S m M B → IsBorderCycle S B
cycle_from S m M B ends round = record {
  first = (subst (λ x. x < length S) (sym round.begins) ends.from_in, λ k h ne. subst (λ x. IsBefore (point S x) (point S k)) (sym round.begins) (ends.first k h (λ e. ne (e ∙ sym round.begins))));
  distinct = round.distinct;
  steps = round.steps;
  members = λ v hv. (
    λ c. (let (k, h, e) = c in
        let f : at B k ≡ v = get_or_default B k 0 v h ∙ e in
        not_inner_left S v (at B (after (length B) k)) (subst (λ x. IsBorderStep S Left x (at B (after (length B) k))) f (round.steps k h))),
    λ out. elim (found B v (length B)) [
      | inl (i, h, e) ↦ (i, h, get_or_default B i v 0 h ∙ e)
      | inr none ↦ absurd (out (inner_by_steps S v (λ w step. (let (i, h, e) = round.covered v w hv step in none i h e)) (λ w step. (
          let back = left_of_right S v w hv step in
          let (i, h, e) = round.covered w v step.within back in
          none (after (length B) i) (round.next_in i h) (next i w v h e back)))))
    ],
  );
  pairs = λ v w hv hw ne. (
    λ n. (let (i, h, sides) = n in elim sides [
      | inl (a, b) ↦ border_of_left S v w (along i v w h a b)
      | inr (a, b) ↦ border_back S w v (border_of_left S w v (along i w v h a b))
    ]),
    λ pair. elim (step_of_border S v w hw (λ e. ne (sym e)) pair) [
      | inl step ↦ (let (i, h, e) = round.covered v w hv step in (i, h, inl (e, next i v w h e step)))
      | inr step ↦ (let back = left_of_right S v w hv step in let (i, h, e) = round.covered w v hw back in (i, h, inr (e, next i w v h e back)))
    ],
  );
}
  where
    along : (i v w : ℕ) → i < length B → at B i ≡ v → at B (after (length B) i) ≡ w → IsBorderStep S Left v w
    along i v w h a b = subst (λ x. IsBorderStep S Left x w) a (subst (λ y. IsBorderStep S Left (at B i) y) b (round.steps i h))

    next : (i v w : ℕ) → i < length B → at B i ≡ v → IsBorderStep S Left v w → at B (after (length B) i) ≡ w
    next i v w h e step = left_step_once S v (at B (after (length B) i)) w round.accepted (subst (λ x. x < length S) e (round.inside i h)) (subst (λ x. IsBorderStep S Left x (at B (after (length B) i))) e (round.steps i h)) step

cycle_of : (S : List Point) (m M : ℕ) (A B : List ℕ) → AreAccepted S → AreFirstAndLast S true m M → AreFirstAndLast S false M m → HasWalked S true m M [] A → HasWalked S false M m A B → IsBorderCycle S B
cycle_of S m M A B accepted there back (C, some_c, a, up) (D, some_d, b, down) =
    let is : B ≡ C ++ D = b ∙ ap (λ xs. xs ++ D) a in
    subst (IsBorderCycle S) (sym is) (cycle_from S m M (C ++ D) there (round_of S m M C D accepted there back some_c some_d up down))

-- the two halves, the second over the points the other way round
pub cycle_of_halves : (S : List Point) (O R A B : List ℕ) → AreAccepted S → IsInOrder S true O → length R ≡ length O → ReversedBelow O R (length O) → HasWalked S true (at O 0) (at O (length O - 1)) [] A
    → HasWalked S false (at R 0) (at R (length R - 1)) A B → IsBorderCycle S B
cycle_of_halves S O R A B accepted order len back up down =
    let some : 0 < length O = omega (arith, order.count, accepted.count.0) in
    let m = at O 0 in let M = at O (length O - 1) in
    let e : at R 0 ≡ M = back 0 0 some ∙ ap (at O) (let t : length O - 1 - 0 ≡ length O - 1 = omega arith in t) in
    let k : length R - 1 < length O = omega arith in
    let z : length O - 1 - (length R - 1) ≡ 0 = omega arith in
    let f : at R (length R - 1) ≡ m = back (length R - 1) 0 k ∙ ap (at O) z in
    cycle_of S m M A B accepted (ends_of S true O order some)
    (subst₂ (AreFirstAndLast S false) e f (ends_of S false R (order_turned S O R order len back) (omega arith)))
    up (subst₂ (λ x y. HasWalked S false x y A B) e f down)
