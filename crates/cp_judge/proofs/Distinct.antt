-- Ascending lists of pairs have no pair twice, and neither have lists with the same pairs.
use Rattle.std.proofs.Common.{◌≡◌, ◌≤◌, ◌+◌, Bool, true, false, List, get_or, sym, ◌∙◌, subst, ap, arith, Ordering, is_lt, nat_cmp, IsTrue, ◌↔◌, inl, inr, ⊎_elim, refl}
use Rattle.std.specs.List.{IsAllAdjacentAnswer, IsDistinct}
use Rattle.std.specs.List.Sorted.{IsPermutation}
use Rattle.std.specs.Cmp.{IsTotalOrder, IsEquivalence}
use Rattle.std.specs.Ordering.{ordering_then, eq_by_cmp}
use Rattle.std.specs.declared.cmp.Ordering.TheVariants.{Less}
use Rattle.std.proofs.lemmas.Bool.{false≢true, true≢false, cases_order, cases_lt}
use Rattle.std.proofs.lemmas.Bool.Decides.{nat_tests}
use Rattle.std.proofs.lemmas.Cmp.{then_total, on_total, nat_cmp_total, eq_by_cmp_equiv}
use Rattle.std.proofs.lemmas.List.Sorted.{IsPermutation-refl, IsPermutation-sym}
use Rattle.std.proofs.lemmas.Map.Keys.{sorted_from_all_adjacent, IsDistinct-from_sorted, IsDistinct-IsPermutation, apart_from_distinct}
use Rattle.plane.specs.declared.segment.Pair.{Pair}
use Rattle.plane.specs.First.{ComesBefore}
use Rattle.partition_defs.specs.Triangulation.{AreDistinct}
use Rattle.cp_judge.specs.Ascending.{RisesByNeighbours}

-- the order of pairs
abbrev pub pair_cmp : (e f : Pair) → Ordering
pair_cmp e f = ordering_then (nat_cmp e.lo f.lo) (nat_cmp e.hi f.hi)

pair_total : IsTotalOrder pair_cmp
pair_total = then_total (on_total (λ (e : Pair). e.lo) nat_cmp_total) (on_total (λ (e : Pair). e.hi) nat_cmp_total)

less_before : (e f : Pair) → ComesBefore e.lo e.hi f.lo f.hi → pair_cmp e f ≡ Less
less_before e f (inl h) = grind (arith, nat_tests)
less_before e f (inr h) = grind (arith, nat_tests)

not_less : (e f : Pair) → f.lo ≤ e.lo → (f.lo ≡ e.lo → f.hi ≤ e.hi) → is_lt (pair_cmp e f) ≡ false
not_less e f h k = grind (arith, nat_tests)

-- the test of the order of two pairs tells whether the first comes before the second
before_tested : (e f : Pair) → is_lt (pair_cmp e f) ≡ true → ComesBefore e.lo e.hi f.lo f.hi
before_tested e f h =
    let off : f.lo ≤ e.lo → (f.lo ≡ e.lo → f.hi ≤ e.hi) → ⊥ = λ l m. true≢false (sym h ∙ not_less e f l m) in
    ⊎_elim (λ same. ⊎_elim (λ m. inr (same, m)) (λ m. absurd (off (omega arith) (λ _. m))) (cases_lt e.hi f.hi))
    (λ u. ⊎_elim (λ l. inl l) (λ l. absurd (off (omega arith) (λ s. omega arith))) u) (cases_order e.lo f.lo)

tested_before : (e f : Pair) → ComesBefore e.lo e.hi f.lo f.hi → is_lt (pair_cmp e f) ≡ true
tested_before e f h = ap is_lt (less_before e f h)

-- the test of neighbours tells whether a list is ascending
pub ascending_tested : (K : List Pair) (r : Bool) → IsAllAdjacentAnswer (λ e f b. b ≡ is_lt (pair_cmp e f)) K r → IsTrue r ↔ RisesByNeighbours K
ascending_tested K true h = (λ _ k d l. before_tested (get_or K k d) (get_or K (k + 1) d) (sym (h k d l)), λ _. refl)
ascending_tested K false h =
    let d : Pair = record { lo = 0; hi = 1; ordered = omega arith } in
    (λ t. absurd (false≢true t), λ up. absurd (false≢true (h.2 d ∙ tested_before (get_or K h.0 d) (get_or K (h.0 + 1) d) (up h.0 d h.1))))

distinct_keys : (K : List Pair) (d : Pair) → RisesByNeighbours K → IsDistinct (eq_by_cmp pair_cmp) K
distinct_keys K d up = IsDistinct-from_sorted pair_cmp K (sorted_from_all_adjacent pair_total K d (λ k l. less_before (get_or K k d) (get_or K (k + 1) d) (up k d l)))

-- a list is distinct where another with the same pairs is ascending
pub distinct_reordered : (K L : List Pair) → IsPermutation K L → RisesByNeighbours L → AreDistinct K
distinct_reordered K L perm up i j d l m e =
    let eq : IsEquivalence (eq_by_cmp pair_cmp) = eq_by_cmp_equiv pair_total in
    let apart : IsDistinct (eq_by_cmp pair_cmp) K =
    IsDistinct-IsPermutation (eq_by_cmp pair_cmp) eq.symm L K (IsPermutation-sym K L perm) (distinct_keys L d up) in
    let P : Pair → Type 0 = λ f. eq_by_cmp pair_cmp (get_or K i d) f ≡ true in
    false≢true (sym (apart_from_distinct (eq_by_cmp pair_cmp) K i j d apart l m) ∙ subst P e (eq.refl (get_or K i d)))

pub ascending_distinct : (K : List Pair) → RisesByNeighbours K → AreDistinct K
ascending_distinct K up = distinct_reordered K K (IsPermutation-refl K) up
