-- A list has no two equal points exactly where its points, put in order, rise strictly.
use Rattle.std.proofs.Common.{◌≡◌, ◌≢◌, ◌<◌, ◌+◌, List, length, get_or, Bool, true, false, true≢false, Ordering, Less, Equal, Greater, is_lt, refl, IsTrue, ◌↔◌, rules, sym, ◌∙◌, arith}
use Rattle.std.specs.List.{AllAdjacentBelow, IsAllAdjacentAnswer, IsDistinct}
use Rattle.std.specs.List.Sorted.{IsPermutation, IsSorted}
use Rattle.std.specs.Cmp.{IsEquivalence}
use Rattle.std.proofs.lemmas.List.{get_or_default}
use Rattle.std.specs.Ordering.{eq_by_cmp}
use Rattle.std.proofs.lemmas.Cmp.{eq_by_cmp_equiv}
use Rattle.std.proofs.lemmas.List.Sorted.{IsPermutation-sym}
use Rattle.std.proofs.lemmas.Map.Keys.{IsDistinct-from_apart, IsDistinct-from_sorted, IsDistinct-IsPermutation, apart_from_distinct, sorted_from_all_adjacent}
use Rattle.std.proofs.lemmas.Int.{ints}
use Rattle.plane.specs.declared.coordinates.Point.{Point}
use Rattle.plane.specs.Geometry.{point}
use Rattle.plane.specs.Accepted.{AreApart}
use Rattle.plane.proofs.laws.Line.{same_point}
use Rattle.plane.proofs.laws.Order.{lex, lex_total}

lex_equal : IsEquivalence (eq_by_cmp lex)
lex_equal = eq_by_cmp_equiv lex_total

same_of_tie : (p q : Point) → eq_by_cmp lex p q ≡ true → p ≡ q
same_of_tie p q h = same_point p q (grind (arith, ints)) (grind (arith, ints))

tie_of_same : (p q : Point) → p ≡ q → eq_by_cmp lex p q ≡ true
tie_of_same p q h = grind (arith, ints)

no_tie : (p q : Point) → p ≢ q → eq_by_cmp lex p q ≡ false
no_tie p q h = grind (arith, same_of_tie)

distinct_of_apart : (S : List Point) → AreApart S → IsDistinct (eq_by_cmp lex) S
distinct_of_apart S apart = IsDistinct-from_apart (eq_by_cmp lex) S (λ i j d hij hj.
    no_tie (get_or S i d) (get_or S j d) (λ e. apart i j hij hj (
    let hi : i < length S = omega arith in get_or_default S i _ d hi ∙ e ∙ sym (get_or_default S j _ d hj))))

apart_of_distinct : (S : List Point) → IsDistinct (eq_by_cmp lex) S → AreApart S
apart_of_distinct S distinct i j hij hj same =
    true≢false (sym (tie_of_same (point S i) (point S j) same) ∙ apart_from_distinct (eq_by_cmp lex) S i j _ distinct hij hj)

less_of_before : (r : Ordering) → is_lt r ≡ true → r ≡ Less
less_of_before Less h = refl
less_of_before Equal h = absurd (true≢false (sym h))
less_of_before Greater h = absurd (true≢false (sym h))

before_of : (p q : Point) → is_lt (lex q p) ≡ false → eq_by_cmp lex p q ≡ false → is_lt (lex p q) ≡ true
before_of p q h k = grind (arith, ints)

-- each point comes strictly before the next
abbrev AreRising : List Point → Type 0
AreRising S = AllAdjacentBelow (λ p q. is_lt (lex p q) ≡ true) S (length S)

apart_of_rising : (S T : List Point) → IsPermutation S T → AreRising T → AreApart S
apart_of_rising S T perm rising =
    let d : Point = point T 0 in
    let distinct = IsDistinct-from_sorted lex T (sorted_from_all_adjacent lex_total T d (λ k h. less_of_before _ (rising k d h))) in
    apart_of_distinct S (IsDistinct-IsPermutation (eq_by_cmp lex) lex_equal.symm T S (IsPermutation-sym S T perm) distinct)

rising_of_apart : (S T : List Point) → IsPermutation S T → IsSorted lex T → AreApart S → AreRising T
rising_of_apart S T perm sorted apart k d h =
    let distinct = IsDistinct-IsPermutation (eq_by_cmp lex) lex_equal.symm S T perm (distinct_of_apart S apart) in
    let m : k < k + 1 = omega arith in
    before_of (get_or T k d) (get_or T (k + 1) d) (sorted k d (omega arith) h) (apart_from_distinct (eq_by_cmp lex) T k (k + 1) d distinct m h)

-- a list has no two equal points exactly where a test of neighbours finds the sorted list rising
pub apart_by_neighbours : (S T : List Point) (r : Bool) → IsPermutation S T → IsSorted lex T → IsAllAdjacentAnswer (λ p q b. b ≡ is_lt (lex p q)) T r → IsTrue r ↔ AreApart S
apart_by_neighbours S T true perm sorted rising = (λ _. apart_of_rising S T perm (λ k d h. sym (rising k d h)), λ _. search rules)
apart_by_neighbours S T false perm sorted (k, h, level) = (λ t. absurd (search rules), λ apart. absurd (true≢false (sym (rising_of_apart S T perm sorted apart k (point T 0) h) ∙ sym (level (point T 0)))))
