-- The ends at a point, cut out of a list in order.
use Rattle.std.proofs.Common.{◌≡◌, ◌<◌, ◌≤◌, ◌+◌, ◌-◌, ℕ, List, length, take, drop, get_or, true, false, sym, ◌∙◌, ap, subst, arith, inl, inr, length-take, length-drop}
use Rattle.std.specs.List.{Contains}
use Rattle.std.specs.List.Sorted.{IsPermutation, IsPartitionPoint}
use Rattle.std.proofs.lemmas.Bool.{cases_lt, ltb-true, ltb-false, leb-true, leb-false}
use Rattle.std.proofs.lemmas.List.{get_or-take, get_or-drop}
use Rattle.std.proofs.lemmas.List.Sorted.{Contains-permutation}
use lib.Dec.{ltb, leb}
use Rattle.plane.specs.declared.segment.Pair.{Pair}
use Rattle.triangulation_check.specs.declared.ends.End.{End}
use Rattle.triangulation_check.specs.Ends.{HasEndsOf, IsRunOf}

-- ends in another order
pub ends_moved : (K : List Pair) (X Y : List End) → IsPermutation X Y → IsPermutation Y X → HasEndsOf K X → HasEndsOf K Y
ends_moved K X Y perm back h = record {
  sound = λ z c. h.sound z (Contains-permutation Y X z back c);
  whole = λ p q j. Contains-permutation X Y _ perm (h.whole p q j);
}

not_below : (k f : ℕ) → ¬ (k < f) → f ≤ k
not_below k f h = elim (cases_lt k f) [ inl a ↦ absurd (h a) | inr a ↦ a ]

not_above : (k c : ℕ) → ¬ (c ≤ k) → k < c
not_above k c h = elim (cases_lt k c) [ inl a ↦ a | inr a ↦ absurd (h a) ]

-- from the first end that is at p or later, up to the last at p
pub run_is : (Z : List End) (f c p : ℕ) → f ≤ length Z → c ≤ length (take (length Z - f) (drop f Z))
    → IsPartitionPoint (λ (z : End). ltb z.at p ≡ true) (λ (z : End). ltb z.at p ≡ false) Z f
    → IsPartitionPoint (λ (z : End). leb z.at p ≡ true) (λ (z : End). leb z.at p ≡ false) (take (length Z - f) (drop f Z)) c
    → IsRunOf Z (take c (take (length Z - f) (drop f Z))) p
run_is Z f c p hf hc first last = record { sound = sound; whole = whole }
  where
    rest : List End
    rest = take (length Z - f) (drop f Z)

    size : length (take (length Z - f) (drop f Z)) ≡ length Z - f
    size = simp (length-take, length-drop) (omega arith)

    at_rest : (i : ℕ) (d : End) → i < length Z - f → get_or (take (length Z - f) (drop f Z)) i d ≡ get_or Z (f + i) d
    at_rest i d h = get_or-take (length Z - f) (drop f Z) i d h ∙ get_or-drop f Z i d

    sound : (z : End) → Contains (take c (take (length Z - f) (drop f Z))) z → Contains Z z × (z.at ≡ p)
    sound z (i, hi, at) =
        let hic : i < c = omega (arith, length-take c (take (length Z - f) (drop f Z))) in
        let hir : i < length Z - f = omega (arith, size) in
        let here : get_or Z (f + i) z ≡ z = sym (at_rest i z hir) ∙ sym (get_or-take c (take (length Z - f) (drop f Z)) i z hic) ∙ at in
        let there : get_or (take (length Z - f) (drop f Z)) i z ≡ z = at_rest i z hir ∙ here in
        let low : p ≤ z.at = subst (λ (w : End). p ≤ w.at) here (ltb-false _ _ (first.1 (f + i) z (omega arith) (omega arith))) in
        let high : z.at ≤ p = subst (λ (w : End). w.at ≤ p) there (leb-true _ _ (last.0 i z (omega arith) hic)) in
        ((f + i, omega arith, here), omega arith)

    whole : (z : End) → Contains Z z → z.at ≡ p → Contains (take c (take (length Z - f) (drop f Z))) z
    whole z (k, hk, at) is =
        let early : f ≤ k = not_below k f (λ h. (let low = subst (λ (w : End). w.at < p) at (ltb-true _ _ (first.0 k z (omega arith) h)) in let e = is in omega arith)) in
        let back : f + (k - f) ≡ k = omega arith in
        let there : get_or (take (length Z - f) (drop f Z)) (k - f) z ≡ z = at_rest (k - f) z (omega arith) ∙ ap (λ j. get_or Z j z) back ∙ at in
        let late : k - f < c = not_above (k - f) c (λ h. (let high = subst (λ (w : End). p < w.at) there (leb-false _ _ (last.1 (k - f) z h (omega (arith, size)))) in let e = is in omega arith)) in
        (k - f, omega (arith, length-take c (take (length Z - f) (drop f Z)), size), get_or-take c (take (length Z - f) (drop f Z)) (k - f) z late ∙ there)
