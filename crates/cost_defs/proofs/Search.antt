-- What the order of pairs says: of a binary search for a pair's cost, and of the test that a list is ascending.
use Rattle.std.proofs.Common.{◌≡◌, ◌<◌, ◌≤◌, ◌+◌, ℕ, Bool, false, true, List, length, get_or, refl, sym, ◌∙◌, subst, arith, inl, inr, ⊎_elim, is_lt, IsTrue, ◌↔◌, zero, suc}
use Rattle.std.specs.List.{AllPairs, AllAdjacentBelow, IsAllAdjacentAnswer}
use Rattle.std.specs.Ordering.{ordering_index}
use Rattle.std.specs.declared.cmp.Ordering.TheVariants.{Less, Equal, Greater}
use Rattle.std.specs.List.Sorted.{IsSortedBy, IsNonDecreasingBy, IsPartitionPoint}
use Rattle.std.proofs.lemmas.Bool.{cases_lt, cases_order, false≢true, true≢false}
use Rattle.std.proofs.lemmas.Bool.Decides.{nat_tests}
use Rattle.std.proofs.lemmas.List.Sorted.{searchable_from_sorted}
use Rattle.plane.specs.declared.segment.Pair.{Pair}
use Rattle.cost_defs.specs.Costs.{Costed, IsCostedBefore, cost, AreCosts}
use Rattle.cost_defs.proofs.Laws.{IsCostedBefore-trans, pair_cmp, pair_total, pair_cmp-equal_lo, pair_cmp-equal_hi, has_ends-other, cost-absent, cost-listed}

less_apart : (e f : Pair) → pair_cmp e f ≡ Less → e.lo ≡ f.lo → e.hi ≡ f.hi → ⊥
less_apart e f h lo hi = grind (arith, nat_tests)

greater_apart : (e f : Pair) → pair_cmp e f ≡ Greater → e.lo ≡ f.lo → e.hi ≡ f.hi → ⊥
greater_apart e f h lo hi = grind (arith, nat_tests)

not_less : (x y : Costed) → IsCostedBefore x y → is_lt (pair_cmp y.0 x.0) ≡ false
not_less x y (inl h) = grind (arith, nat_tests)
not_less x y (inr h) = grind (arith, nat_tests)

-- a list of costs may be searched for a pair
searchable : (D : List Costed) (e : Pair) → AllPairs IsCostedBefore D → IsNonDecreasingBy (λ x. ordering_index (pair_cmp x.0 e)) D
searchable D e up =
    let sorted : IsSortedBy (λ (x y : Costed). is_lt (pair_cmp x.0 y.0)) D = λ k d _ l. not_less (get_or D k d) (get_or D (k + 1) d) (up k (k + 1) d (omega arith) l) in
    searchable_from_sorted pair_total (λ (x : Costed). x.0) D e sorted

-- the item that was found gives the cost
pub cost-found : (D : List Costed) (e : Pair) (k : ℕ) (d : Costed) → AreCosts D → k < length D → pair_cmp (get_or D k d).0 e ≡ Equal → (get_or D k d).1 ≡ cost D e.lo e.hi
cost-found D e k d costs l h =
    sym (cost-listed D e k d costs l (pair_cmp-equal_lo (get_or D k d).0 e h) (pair_cmp-equal_hi (get_or D k d).0 e h))

-- a pair that isn't found costs 1
pub cost-missed : (D : List Costed) (e : Pair) (i : ℕ) → AreCosts D → (IsNonDecreasingBy (λ x. ordering_index (pair_cmp x.0 e)) D → IsPartitionPoint (λ x. pair_cmp x.0 e ≡ Less) (λ x. pair_cmp x.0 e ≡ Greater) D i) → 1 ≡ cost D e.lo e.hi
cost-missed D e i costs place =
    let parts = place (searchable D e costs.ascending) in
    sym (cost-absent D e.lo e.hi (λ k d l. has_ends-other (get_or D k d).0 e (
    elim (cases_lt k i) [
      | inl h ↦ less_apart (get_or D k d).0 e (parts.0 k d (omega arith) h)
      | inr h ↦ greater_apart (get_or D k d).0 e (parts.1 k d h l)
    ])))

before_tested : (x y : Costed) → is_lt (pair_cmp x.0 y.0) ≡ true → IsCostedBefore x y
before_tested x y h =
    let off : y.0.lo ≤ x.0.lo → (y.0.lo ≡ x.0.lo → y.0.hi ≤ x.0.hi) → ⊥ = λ l m. true≢false (sym h ∙ grind (arith, nat_tests)) in
    ⊎_elim (λ same. ⊎_elim (λ m. inr (same, m)) (λ m. absurd (off (omega arith) (λ _. m))) (cases_lt x.0.hi y.0.hi))
    (λ u. ⊎_elim (λ l. inl l) (λ l. absurd (off (omega arith) (λ s. omega arith))) u) (cases_order x.0.lo y.0.lo)

tested_before : (x y : Costed) → IsCostedBefore x y → is_lt (pair_cmp x.0 y.0) ≡ true
tested_before x y (inl h) = grind (arith, nat_tests)
tested_before x y (inr h) = grind (arith, nat_tests)

-- where each item comes before the next, each comes before all later ones
all_before : (D : List Costed) → AllAdjacentBelow IsCostedBefore D (length D) → AllPairs IsCostedBefore D
all_before D up i zero d l m = absurd (omega (arith, l))
all_before D up i (suc j) d l m =
    let next : IsCostedBefore (get_or D j d) (get_or D (suc j) d) = subst (λ n. IsCostedBefore (get_or D j d) (get_or D n d)) (omega arith) (up j d (omega arith)) in
    elim (cases_lt i j) [
      | inl h ↦ IsCostedBefore-trans (get_or D i d) (get_or D j d) (get_or D (suc j) d) (all_before D up i j d h (omega arith)) next
      | inr h ↦ subst (λ n. IsCostedBefore (get_or D n d) (get_or D (suc j) d)) (omega arith) next
    ]

-- the test of neighbours tells whether a list is ascending
pub ascending_tested : (D : List Costed) (r : Bool) → IsAllAdjacentAnswer (λ x y b. b ≡ is_lt (pair_cmp x.0 y.0)) D r → IsTrue r ↔ AllPairs IsCostedBefore D
ascending_tested D true h = (λ _. all_before D (λ k d l. before_tested (get_or D k d) (get_or D (k + 1) d) (sym (h k d l))), λ _. refl)
ascending_tested D false h =
    let d : Costed = (record { lo = 0; hi = 1; ordered = omega arith }, 0) in
    (λ t. absurd (false≢true t), λ up. absurd (false≢true (h.2 d ∙ tested_before (get_or D h.0 d) (get_or D (h.0 + 1) d) (up h.0 (h.0 + 1) d (omega arith) h.1))))
