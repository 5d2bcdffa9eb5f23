-- A chain of places loses those at which it turns right towards a new one, and gets it.
use Rattle.std.proofs.Common.{◌≡◌, ℕ, zero, suc, ◌+◌, ◌-◌, ◌<◌, List, [], ◌∷◌, ◌++◌, length, take, pos, ◌<ℤ◌, ◌≤ℤ◌, inl, inr, arith, sym, ◌∙◌, ap, subst, subst₂, refl}
use Rattle.std.proofs.lemmas.Int.{ints}
use Rattle.std.proofs.lemmas.Bool.{cases_lt, cases_order}
use Rattle.std.proofs.lemmas.List.{get_or-take, length-take-le, get_or_append_left, get_or_push, length_push}
use Rattle.number_laws.proofs.Naturals.{below_or_last}
use Rattle.plane.specs.declared.coordinates.Point.{Point}
use Rattle.plane.specs.Geometry.{area}
use Rattle.plane.proofs.laws.Area.{area_swap, area_first, area_second}
use Rattle.plane_laws.specs.Order.{IsBefore}
use Rattle.plane_laws.proofs.Order.{before_asym}
use Rattle.border.specs.Cycle.{at}
use Rattle.border.specs.Chain.{IsLower, IsPart, IsChain, IsOpen}
use Rattle.border.proofs.Lower.{turn_off_strict, behind, sees_before, bends_on}

-- the first n points stand in order
abbrev pub Rising : (ℕ → Point) → ℕ → Type 0
Rising P n = (i j : ℕ) → i < j → j < n → IsBefore (P i) (P j)

-- the last side of a chain
abbrev pub Turn : (P : ℕ → Point) (n : ℕ) (C : List ℕ) → Type 0
Turn P n C = (1 < length C) × (area (P (at C (length C - 2))) (P (at C (length C - 1))) (P n) <ℤ pos 0)

pub chain_begins : (P : ℕ → Point) → IsChain P 1 (0 ∷ [])
chain_begins P = record {
  part = record { some = omega arith; places = λ j h. (let e : j ≡ 0 = omega arith in subst (λ i. at (0 ∷ []) i < 1) (sym e) (omega arith)); first = refl; steps = λ j h. absurd (omega arith) };
  last = refl;
}

pub open_of_chain : (P : ℕ → Point) (n : ℕ) (C : List ℕ) → IsChain P n C → IsOpen P n C
open_of_chain P n C chain = record { part = chain.part; opens = λ t a b. absurd (let e = chain.last in omega arith) }

last_side : (P : ℕ → Point) (n : ℕ) (C : List ℕ) → IsPart P n C → 1 < length C → IsLower P n (at C (length C - 2)) (at C (length C - 1))
last_side P n C part several =
    let e : length C - 2 + 1 ≡ length C - 1 = omega arith in
    subst (λ i. IsLower P n (at C (length C - 2)) (at C i)) e (part.steps (length C - 2) (omega arith))

-- without the place at which it turns right
pub shortened : (P : ℕ → Point) (n : ℕ) (C D : List ℕ) → Rising P (n + 1) → IsOpen P n C → Turn P n C → D ≡ take (length C - 1) C → IsOpen P n D
shortened P n C D rising so (several, right) is = subst (IsOpen P n) (sym is) (record {
  part = record {
    some = omega (arith, len);
    places = λ j h. subst (λ x. x < n) (sym (same j (omega (arith, len)))) (so.part.places j (omega (arith, len)));
    first = same 0 (omega arith) ∙ so.part.first;
    steps = λ j h. subst₂ (IsLower P n) (sym (same j (omega (arith, len)))) (sym (same (j + 1) (omega (arith, len)))) (so.part.steps j (omega (arith, len)));
  };
  opens = subst (λ x. (t : ℕ) → x < t → t < n → pos 0 <ℤ area (P x) (P n) (P t)) (sym end) opens;
})
  where
    len : length (take (length C - 1) C) ≡ length C - 1
    len = length-take-le (length C - 1) C (omega arith)

    same : (j : ℕ) → j < length C - 1 → at (take (length C - 1) C) j ≡ at C j
    same j h = get_or-take (length C - 1) C j 0 h

    end : at (take (length C - 1) C) (length (take (length C - 1) C) - 1) ≡ at C (length C - 2)
    end = let e : length (take (length C - 1) C) - 1 ≡ length C - 2 = omega (arith, len) in ap (at (take (length C - 1) C)) e ∙ same (length C - 2) (omega arith)

    opens : (t : ℕ) → at C (length C - 2) < t → t < n → pos 0 <ℤ area (P (at C (length C - 2))) (P n) (P t)
    opens t ht hn =
        let a = at C (length C - 2) in let c = at C (length C - 1) in
        let side = last_side P n C so.part several in
        let hc : c < n = so.part.places (length C - 1) (omega arith) in
        let an : IsBefore (P a) (P n) = rising a n (omega arith) (omega arith) in
        let s = area_swap (P a) (P c) (P n) in
        elim (cases_order t c) [
          | inl e ↦ subst (λ x. pos 0 <ℤ area (P a) (P n) (P x)) (sym e) (omega (arith, ints))
          | inr rest ↦ elim rest [
            | inl l ↦ turn_off_strict (P a) (P n) (P c) (P t) an side.leads (rising a t ht (omega arith)) right (side.left t hn)
            | inr g ↦ sees_before (P a) (P c) (P t) (P n) side.leads (rising c t g (omega arith)) (rising t n hn (omega arith)) right (so.opens t g hn)
          ]
        ]

-- a side with the new point on its left or on its line
grown : (P : ℕ → Point) (n v w : ℕ) → Rising P (n + 1) → IsLower P n v w → pos 0 ≤ℤ area (P v) (P w) (P n) → IsLower P (n + 1) v w
grown P n v w rising low new = record {
  within = (let h = low.within in omega arith);
  leads = low.leads;
  left = λ k h. elim (below_or_last k n h) [ inl l ↦ low.left k l | inr e ↦ subst (λ x. pos 0 ≤ℤ area (P v) (P w) (P x)) (sym e) new ];
  clear = λ k h a b. elim (below_or_last k n h) [
    | inl l ↦ low.clear k l a b
    | inr e ↦ absurd (before_asym (P n) (P w) (subst (λ x. IsBefore (P x) (P w)) e b) (rising w n low.within (omega arith)))
  ];
}

not_negative : (P : ℕ → Point) (n : ℕ) (C : List ℕ) → ¬ Turn P n C → 1 < length C → pos 0 ≤ℤ area (P (at C (length C - 2))) (P (at C (length C - 1))) (P n)
not_negative P n C bent several = let none : ¬ (area (P (at C (length C - 2))) (P (at C (length C - 1))) (P n) <ℤ pos 0) = λ h. bent (several, h) in grind (arith, ints)

-- the new point is on the left of all sides, or on their lines
bends : (P : ℕ → Point) (n : ℕ) (C : List ℕ) → Rising P (n + 1) → IsOpen P n C → ¬ Turn P n C → (m j : ℕ) → j + 1 + 1 + m ≡ length C → pos 0 ≤ℤ area (P (at C j)) (P (at C (j + 1))) (P n)
bends P n C rising so bent zero j e =
    let a : length C - 2 ≡ j = omega arith in let b : length C - 1 ≡ j + 1 = omega arith in
    subst₂ (λ x y. pos 0 ≤ℤ area (P (at C x)) (P (at C y)) (P n)) a b (not_negative P n C bent (omega arith))
bends P n C rising so bent (suc m) j e =
    let next = bends P n C rising so bent m (j + 1) (omega arith) in
    let one = so.part.steps j (omega arith) in let two = so.part.steps (j + 1) (omega arith) in
    bends_on (P (at C j)) (P (at C (j + 1))) (P (at C (j + 1 + 1))) (P n) one.leads two.leads (rising (at C (j + 1 + 1)) n two.within (omega arith)) (one.left (at C (j + 1 + 1)) two.within) next

-- the side from the chain's end to the new point
new_side : (P : ℕ → Point) (n : ℕ) (C : List ℕ) → Rising P (n + 1) → IsOpen P n C → ¬ Turn P n C → IsLower P (n + 1) (at C (length C - 1)) n
new_side P n C rising so bent =
    let c = at C (length C - 1) in
    let hc : c < n = so.part.places (length C - 1) (let s = so.part.some in omega arith) in
    let cn : IsBefore (P c) (P n) = rising c n hc (omega arith) in
    record {
      within = omega arith;
      leads = cn;
      left = λ t h. elim (below_or_last t n h) [
        | inr e ↦ subst (λ x. pos 0 ≤ℤ area (P c) (P n) (P x)) (sym e) (let z = area_second (P c) (P n) in omega (arith, ints))
        | inl l ↦ elim (cases_order t c) [
          | inl e ↦ subst (λ x. pos 0 ≤ℤ area (P c) (P n) (P x)) (sym e) (let z = area_first (P c) (P n) in omega (arith, ints))
          | inr rest ↦ elim rest [
            | inl before ↦ back t before hc cn
            | inr after ↦ (let z = so.opens t after l in omega (arith, ints))
          ]
        ]
      ];
      clear = λ k h a b. elim (below_or_last k n h) [
        | inr e ↦ absurd (let Q : ℕ → Type 0 = λ x. IsBefore (P x) (P n) in let own = subst Q e b in before_asym (P n) (P n) own own)
        | inl l ↦ elim (cases_order k c) [
          | inl e ↦ absurd (let Q : ℕ → Type 0 = λ x. IsBefore (P c) (P x) in let own = subst Q e a in before_asym (P c) (P c) own own)
          | inr rest ↦ elim rest [
            | inl before ↦ absurd (before_asym (P c) (P k) a (rising k c before (omega arith)))
            | inr after ↦ (λ z. let o = so.opens k after l in omega (arith, ints))
          ]
        ]
      ];
    }
  where
    back : (t : ℕ) → t < at C (length C - 1) → at C (length C - 1) < n → IsBefore (P (at C (length C - 1))) (P n) → pos 0 ≤ℤ area (P (at C (length C - 1))) (P n) (P t)
    back t h hc cn = elim (cases_lt 1 (length C)) [
      | inl several ↦
          (let side = last_side P n C so.part several in
          behind (P (at C (length C - 2))) (P (at C (length C - 1))) (P n) (P t) side.leads cn (rising t (at C (length C - 1)) h (omega arith)) (side.left t (omega arith)) (not_negative P n C bent several))
      | inr one ↦
          (let s = so.part.some in let e : length C - 1 ≡ 0 = omega arith in
          let z : at C (length C - 1) ≡ 0 = ap (at C) e ∙ so.part.first in absurd (omega arith))
    ]

-- with the new place at its end
pub lengthened : (P : ℕ → Point) (n : ℕ) (C D : List ℕ) → Rising P (n + 1) → IsOpen P n C → ¬ Turn P n C → D ≡ C ++ n ∷ [] → IsChain P (n + 1) D
lengthened P n C D rising so bent is = subst (IsChain P (n + 1)) (sym is) (record {
  part = record {
    some = omega (arith, len);
    places = λ j h. elim (cases_lt j (length C)) [
      | inl l ↦ subst (λ x. x < n + 1) (sym (low j l)) (let p = so.part.places j l in omega arith)
      | inr g ↦ (let e : length C ≡ j = omega (arith, len) in subst (λ i. at (C ++ n ∷ []) i < n + 1) e (subst (λ x. x < n + 1) (sym top) (omega arith)))
    ];
    first = low 0 so.part.some ∙ so.part.first;
    steps = λ j h. elim (cases_lt (j + 1) (length C)) [
      | inl l ↦ subst₂ (IsLower P (n + 1)) (sym (low j (omega arith))) (sym (low (j + 1) l))
          (grown P n (at C j) (at C (j + 1)) rising (so.part.steps j l) (bends P n C rising so bent (length C - (j + 1 + 1)) j (omega arith)))
      | inr g ↦ (let e : length C - 1 ≡ j = omega (arith, len, so.part.some) in let f : length C ≡ j + 1 = omega (arith, len) in
          let lj : j < length C = omega arith in
          subst₂ (IsLower P (n + 1)) (ap (at C) e ∙ sym (low j lj)) (sym top ∙ ap (at (C ++ n ∷ [])) f) (new_side P n C rising so bent))
    ];
  };
  last = (let e : length (C ++ n ∷ []) - 1 ≡ length C = omega (arith, len) in ap (λ x. x + 1) (ap (at (C ++ n ∷ [])) e ∙ top));
})
  where
    len : length (C ++ n ∷ []) ≡ length C + 1
    len = length_push C n

    low : (j : ℕ) → j < length C → at (C ++ n ∷ []) j ≡ at C j
    low j h = get_or_append_left C (n ∷ []) 0 j h

    top : at (C ++ n ∷ []) (length C) ≡ n
    top = get_or_push C n 0 (length C) refl
