-- The ends at a point, gathered segment by segment, and what they say of its needs.
use Rattle.std.proofs.Common.{◌≡◌, ◌≢◌, ◌⊎◌, ◌<◌, ◌≤◌, ◌+◌, ◌==◌, ◌||◌, ⊎_elim, inl, inr, ℕ, true, false, cond, List, [], ◌∷◌, ◌++◌, length, take, get_or, slice_index_or, min, max, sym, ◌∙◌, refl, ap, subst, arith, Some, None}
use Rattle.std.specs.List.{Contains}
use Rattle.std.proofs.lemmas.Bool.{cases_lt, eq-eqb, ne_eqb, or_left, or_right, or_from}
use Rattle.std.proofs.lemmas.List.{take_more, take_all, length_push}
use Rattle.std.proofs.lemmas.List.Elements.{Contains-append_left, Contains-push, Contains-push_cases, Contains-get_or}
use Rattle.std.proofs.lemmas.List.Sums.{count_by_more_yes, count_by_more_no, sum_by-take-le}
use Rattle.plane.specs.declared.coordinates.Point.{Point}
use Rattle.plane.specs.declared.segment.Pair.{Pair}
use Rattle.plane.specs.Geometry.{IsInner, IsBorderPair}
use Rattle.partition_defs.specs.Partition.{HasEnds, Joins, AreWithin, MeetsNeedsAt}
use Rattle.cp_judge.specs.Ends.{IsOtherEnd, AreEnds, count_at, AreOthers, MeetsNeedsAmong}
use Rattle.plane.proofs.laws.Border.{border_back}
use Rattle.partition_defs.proofs.laws.Joined.{joins_pair, joins_from, other_within}

joins_old : (K : List Pair) (e : Pair) (p r : ℕ) → Joins K p r → Joins (K ++ e ∷ []) p r
joins_old K e p r j = joins_from (K ++ e ∷ []) j.1 p r (Contains-append_left K (e ∷ []) j.1 (joins_pair K p r j)) j.4

joins_push : (K : List Pair) (e : Pair) (p r : ℕ) → Joins (K ++ e ∷ []) p r → Joins K p r ⊎ HasEnds e p r
joins_push K e p r j = elim (Contains-push_cases K e j.1 (joins_pair (K ++ e ∷ []) p r j)) [
  | inl c ↦ inl (joins_from K j.1 p r c j.4)
  | inr same ↦ inr (subst (λ x. HasEnds x p r) (sym same) j.4)
]

-- one segment more at p, and one that isn't at p
ends_push : (K : List Pair) (e : Pair) (p r : ℕ) (E : List ℕ) → IsOtherEnd e p (Some r) → AreEnds K p E → AreEnds (K ++ e ∷ []) p (E ++ r ∷ [])
ends_push K e p r E other ends s = (
  λ at. elim (Contains-push_cases E r s at) [
    | inl old ↦ joins_old K e p s ((ends s).0 old)
    | inr same ↦ joins_from (K ++ e ∷ []) e p s (Contains-push K e) ((other s).1 (sym same))
  ],
  λ j. elim (joins_push K e p s j) [
    | inl old ↦ Contains-append_left E (r ∷ []) s ((ends s).1 old)
    | inr here ↦ subst (Contains (E ++ r ∷ [])) (sym ((other s).0 here)) (Contains-push E r)
  ],
)

ends_pass : (K : List Pair) (e : Pair) (p : ℕ) (E : List ℕ) → IsOtherEnd e p None → AreEnds K p E → AreEnds (K ++ e ∷ []) p E
ends_pass K e p E other ends s = (
  λ at. joins_old K e p s ((ends s).0 at),
  λ j. elim (joins_push K e p s j) [ inl old ↦ (ends s).1 old | inr here ↦ absurd (other s here) ],
)

is_at : (e : Pair) (p r : ℕ) → HasEnds e p r → ((e.lo == p) || (e.hi == p)) ≡ true
is_at e p r (inl h) = or_left (e.lo == p) (e.hi == p) (eq-eqb e.lo p h.0)
is_at e p r (inr h) = or_right (e.lo == p) (e.hi == p) (eq-eqb e.hi p h.1)

not_at : (e : Pair) (p : ℕ) → IsOtherEnd e p None → ((e.lo == p) || (e.hi == p)) ≡ false
not_at e p other = or_from (e.lo == p) (e.hi == p) (ne_eqb e.lo p (λ s. other e.hi (inl (s, refl)))) (ne_eqb e.hi p (λ s. other e.lo (inr (refl, s))))

-- E has the ends at p of the first i segments, and as many places as those are at p
pub record AreEndsBefore (K : List Pair) (i p : ℕ) (E : List ℕ) : Type 0 where
  pub ends : AreEnds (take i K) p E
  pub count : length E ≡ count_at (take i K) p

next : (K : List Pair) (i : ℕ) (e : Pair) → i < length K → e ≡ get_or K i e → take (i + 1) K ≡ take i K ++ e ∷ []
next K i e l is = take_more K i e l ∙ ap (λ (x : Pair). take i K ++ x ∷ []) (sym is)

counted : (K : List Pair) (i p : ℕ) (e : Pair) (r : ℕ) → i < length K → e ≡ get_or K i e → IsOtherEnd e p (Some r) → count_at (take (i + 1) K) p ≡ count_at (take i K) p + 1
counted K i p e r l is other =
    count_by_more_yes (λ (x : Pair). (x.lo == p) || (x.hi == p)) K i e l (ap (λ (x : Pair). (x.lo == p) || (x.hi == p)) (sym is) ∙ is_at e p r ((other r).1 refl))

-- a step of the gathering: a segment at p, and one that isn't at p
pub one_more : (K : List Pair) (i p : ℕ) (e : Pair) (r : ℕ) (E F : List ℕ) → i < length K → e ≡ get_or K i e → IsOtherEnd e p (Some r)
    → F ≡ E ++ r ∷ [] → AreEndsBefore K i p E → AreEndsBefore K (i + 1) p F
one_more K i p e r E F l is other same so = subst (AreEndsBefore K (i + 1) p) (sym same) (record {
  ends = subst (λ T. AreEnds T p (E ++ r ∷ [])) (sym (next K i e l is)) (ends_push (take i K) e p r E other so.ends);
  count = length_push E r ∙ ap (λ n. n + 1) so.count ∙ sym (counted K i p e r l is other);
})

pub one_passed : (K : List Pair) (i p : ℕ) (e : Pair) (E F : List ℕ) → i < length K → e ≡ get_or K i e → IsOtherEnd e p None
    → F ≡ E → AreEndsBefore K i p E → AreEndsBefore K (i + 1) p F
one_passed K i p e E F l is other same so = subst (AreEndsBefore K (i + 1) p) (sym same) (record {
  ends = subst (λ T. AreEnds T p E) (sym (next K i e l is)) (ends_pass (take i K) e p E other so.ends);
  count = so.count ∙ sym (count_by_more_no (λ (x : Pair). (x.lo == p) || (x.hi == p)) K i e l (ap (λ (x : Pair). (x.lo == p) || (x.hi == p)) (sym is) ∙ not_at e p other));
})

pub all_gathered : (K : List Pair) (i p : ℕ) (E : List ℕ) → length K ≤ i → AreEndsBefore K i p E → AreEnds K p E
all_gathered K i p E l so = subst (λ T. AreEnds T p E) (take_all i K l) so.ends

-- a full list of ends and one segment more
pub more_than : (K : List Pair) (i p : ℕ) (e : Pair) (r : ℕ) (E : List ℕ) → i < length K → e ≡ get_or K i e → IsOtherEnd e p (Some r)
    → AreEndsBefore K i p E → length E < count_at K p
more_than K i p e r E l is other so =
    let a = counted K i p e r l is other in
    let b = sum_by-take-le (λ (x : Pair). cond ((x.lo == p) || (x.hi == p)) 1 0) K (i + 1) in
    omega (arith, so.count)

two_ends : (e : Pair) (p r : ℕ) → r ≡ p → ¬ HasEnds e p r
two_ends e p r same h = let o : e.lo < e.hi = e.ordered in ⊎_elim (λ u. let a = u.0 in let b = u.1 in omega arith) (λ u. let a = u.0 in let b = u.1 in omega arith) h

pub end_elsewhere : (S : List Point) (K : List Pair) (p r : ℕ) → AreWithin S K → Joins K p r → (r < length S) × (r ≢ p)
end_elsewhere S K p r within j = (other_within j.1 p r (length S) j.4 (within j.1 (joins_pair K p r j)), λ same. two_ends j.1 p r same j.4)

-- the ends at p are other points
pub others_of_ends : (S : List Point) (K : List Pair) (p : ℕ) (E : List ℕ) → AreWithin S K → AreEnds K p E → AreOthers S p E
others_of_ends S K p E within ends k d l = let r = slice_index_or E k d in end_elsewhere S K p r within ((ends r).0 (Contains-get_or E k d l))

-- what is met among the ends is met
pub met_by_ends : (S : List Point) (K : List Pair) (p : ℕ) (E : List ℕ) → AreWithin S K → AreEnds K p E → MeetsNeedsAmong S E p → MeetsNeedsAt S K p
met_by_ends S K p E within ends met q hq qp =
    let (r, at, need) = met q hq qp in let j = (ends r).0 at in (r, (end_elsewhere S K p r within j).0, j, need)

-- a point of a border pair is no inner point
pub not_inner_at : (S : List Point) (p q lo hi : ℕ) → q < length S → q ≢ p → lo ≡ min p q → hi ≡ max p q → IsBorderPair S lo hi → ¬ IsInner S p
not_inner_at S p q lo hi hq qp el eh pair inner = elim (cases_lt p q) [
  | inl l ↦ (let a : lo ≡ p = omega arith in let b : hi ≡ q = omega arith in inner q hq qp (rw (← a, ← b) pair))
  | inr l ↦ (let a : lo ≡ q = omega arith in let b : hi ≡ p = omega arith in inner q hq qp (border_back S q p (rw (← a, ← b) pair)))
]
