-- The border pairs among the segments of a triangulation, and their cost.
use Rattle.std.proofs.Common.{◌≡◌, ℕ, ◌+◌, ◌<◌, ◌≤◌, inl, inr, List, [], ◌∷◌, ◌++◌, length, take, drop, get_or, sym, ◌∙◌, ap, subst, refl, arith}
use Rattle.std.specs.List.{Contains}
use Rattle.std.proofs.lemmas.List.{take_more, take_all, length-append, take-append-drop}
use Rattle.std.proofs.lemmas.List.Sums.{sum_by-append}
use Rattle.plane.specs.declared.coordinates.Point.{Point}
use Rattle.plane.specs.declared.segment.Pair.{Pair}
use Rattle.plane.specs.Geometry.{IsBorderPair}
use Rattle.partition_defs.specs.Ascending.{IsAscending, ComesFirst}
use Rattle.partition_defs.specs.Triangulation.{IsBorderList, IsTriangulation}
use Rattle.partition_defs.proofs.laws.Has.{Has, Rises, has_of, has_at, contains_of, has_append, append_has, ascending_of, rises_of, rises_append, ascending_distinct}
use Rattle.partition_defs.proofs.laws.Joined.{joined, joins_of}
use Rattle.cost_defs.specs.Costs.{Costed, cost}
use Rattle.edit_session.specs.Bounds.{IsBorderCost}
use Rattle.edit_session.specs.Desks.{AreBorderOf, IsSumming}

-- of no pairs there is nothing
pub summing_none : (S : List Point) (D : List Costed) → IsSumming S D [] 0
summing_none S D = record {
  border = [];
  of = record { ascending = ascending_of [] tt; there = λ e h. absurd (has_of [] e h); all = λ e h at. absurd (has_of [] e h) };
  is = refl;
  small = omega arith;
}

-- what stands in a list and what comes to its end
split_last : (xs : List Pair) (x e : Pair) → Contains (xs ++ x ∷ []) e → {P : Type 0} → (Contains xs e → P) → (x ≡ e → P) → P
split_last xs x e h f g = elim (has_append xs (x ∷ []) e (has_of (xs ++ x ∷ []) e h)) [
  | inl k ↦ f (contains_of xs e k)
  | inr k ↦ elim k [ inl same ↦ g same | inr none ↦ absurd none ]
]

in_first : (xs : List Pair) (x e : Pair) → Contains xs e → Contains (xs ++ x ∷ []) e
in_first xs x e h = contains_of (xs ++ x ∷ []) e (append_has xs (x ∷ []) e (inl (has_of xs e h)))

at_last : (xs : List Pair) (x : Pair) → Contains (xs ++ x ∷ []) x
at_last xs x = contains_of (xs ++ x ∷ []) x (append_has xs (x ∷ []) x (inr (inl refl)))

-- one more pair, which comes after all before, at the border or not
pub border_more : (S : List Point) (pairs B : List Pair) (x : Pair) → IsAscending (pairs ++ x ∷ []) → AreBorderOf S pairs B → IsBorderPair S x.lo x.hi → AreBorderOf S (pairs ++ x ∷ []) (B ++ x ∷ [])
border_more S pairs B x rises of at = record {
  ascending = ascending_of (B ++ x ∷ [])
      (rises_append B (x ∷ []) (rises_of B of.ascending) ((λ y h. absurd h), tt)
      (λ e f h k. elim k [
        | inl same ↦ subst (λ (z : Pair). ComesFirst e z) same (before_last pairs x e (rises_of (pairs ++ x ∷ []) rises) (has_of pairs e (of.there e (contains_of B e h)).0))
        | inr none ↦ absurd none
      ]));
  there = λ e h. split_last B x e h
      (λ k. (let t = of.there e k in (in_first pairs x e t.0, t.1)))
      (λ same. subst (λ (z : Pair). Contains (pairs ++ x ∷ []) z × IsBorderPair S z.lo z.hi) same (at_last pairs x, at));
  all = λ e h on. split_last pairs x e h
      (λ k. in_first B x e (of.all e k on))
      (λ same. subst (λ (z : Pair). Contains (B ++ x ∷ []) z) same (at_last B x));
}
  where
    before_last : (xs : List Pair) (y e : Pair) → Rises (xs ++ y ∷ []) → Has e xs → ComesFirst e y
    before_last [] y e r h = absurd h
    before_last (z ∷ xs) y e r (inl same) = subst (λ (w : Pair). ComesFirst w y) same (r.0 y (append_has xs (y ∷ []) y (inr (inl refl))))
    before_last (z ∷ xs) y e r (inr h) = before_last xs y e r.1 h

pub border_less : (S : List Point) (pairs B : List Pair) (x : Pair) → AreBorderOf S pairs B → ¬ IsBorderPair S x.lo x.hi → AreBorderOf S (pairs ++ x ∷ []) B
border_less S pairs B x of off = record {
  ascending = of.ascending;
  there = λ e h. (let t = of.there e h in (in_first pairs x e t.0, t.1));
  all = λ e h on. split_last pairs x e h (λ k. of.all e k on) (λ same. absurd (off (subst (λ (z : Pair). IsBorderPair S z.lo z.hi) (sym same) on)));
}

-- the sum with one more pair
pub summing_more : (S : List Point) (D : List Costed) (pairs : List Pair) (x : Pair) (sum : ℕ) → IsAscending (pairs ++ x ∷ []) → cost D x.lo x.hi ≤ 1000 → IsSumming S D pairs sum → IsBorderPair S x.lo x.hi
    → IsSumming S D (pairs ++ x ∷ []) (sum + cost D x.lo x.hi)
summing_more S D pairs x sum rises low so at = record {
  border = so.border ++ x ∷ [];
  of = border_more S pairs so.border x rises so.of at;
  is = (let a = sum_by-append (λ (e : Pair). cost D e.lo e.hi) so.border (x ∷ []) in let b = so.is in omega (arith, a, b));
  small = (let a = so.small in let b = length-append pairs (x ∷ []) in omega (arith, a, b, low));
}

pub summing_less : (S : List Point) (D : List Costed) (pairs : List Pair) (x : Pair) (sum : ℕ) → IsSumming S D pairs sum → ¬ IsBorderPair S x.lo x.hi → IsSumming S D (pairs ++ x ∷ []) sum
summing_less S D pairs x sum so off = record {
  border = so.border;
  of = border_less S pairs so.border x so.of off;
  is = so.is;
  small = (let a = so.small in let b = length-append pairs (x ∷ []) in omega (arith, a, b));
}

rises_first : (xs ys : List Pair) → Rises (xs ++ ys) → Rises xs
rises_first [] ys r = tt
rises_first (x ∷ xs) ys r = (λ e h. r.0 e (append_has xs ys e (inl h)), rises_first xs ys r.1)

-- what a list has at a place
pub there_at : (P : List Pair) (i : ℕ) (e : Pair) → i < length P → e ≡ get_or P i e → Contains P e
there_at P i e h at = subst (Contains P) (sym at) (contains_of P (get_or P i e) (has_at P i e h))

next_pairs : (P : List Pair) (i : ℕ) (e : Pair) → i < length P → e ≡ get_or P i e → take (i + 1) P ≡ take i P ++ e ∷ []
next_pairs P i e h at = take_more P i e h ∙ ap (λ (x : Pair). take i P ++ x ∷ []) (sym at)

next_ascends : (P : List Pair) (i : ℕ) (e : Pair) → i < length P → e ≡ get_or P i e → IsAscending P → IsAscending (take i P ++ e ∷ [])
next_ascends P i e h at rises =
    subst IsAscending (next_pairs P i e h at)
    (ascending_of (take (i + 1) P) (rises_first (take (i + 1) P) (drop (i + 1) P) (subst Rises (sym (take-append-drop (i + 1) P)) (rises_of P rises))))

-- a step of the sum
pub step_border : (S : List Point) (D : List Costed) (P : List Pair) (i : ℕ) (e : Pair) (sum new : ℕ) → i < length P → e ≡ get_or P i e → IsAscending P → cost D e.lo e.hi ≤ 1000 → IsSumming S D (take i P) sum
    → IsBorderPair S e.lo e.hi → new ≡ sum + cost D e.lo e.hi → IsSumming S D (take (i + 1) P) new
step_border S D P i e sum new h at rises low so border is =
    subst (λ (l : List Pair). IsSumming S D l new) (sym (next_pairs P i e h at))
    (subst (λ (n : ℕ). IsSumming S D (take i P ++ e ∷ []) n) (sym is) (summing_more S D (take i P) e sum (next_ascends P i e h at rises) low so border))

pub step_inside : (S : List Point) (D : List Costed) (P : List Pair) (i : ℕ) (e : Pair) (sum new : ℕ) → i < length P → e ≡ get_or P i e → IsSumming S D (take i P) sum → ¬ IsBorderPair S e.lo e.hi → new ≡ sum
    → IsSumming S D (take (i + 1) P) new
step_inside S D P i e sum new h at so off is =
    subst (λ (l : List Pair). IsSumming S D l new) (sym (next_pairs P i e h at))
    (subst (λ (n : ℕ). IsSumming S D (take i P ++ e ∷ []) n) (sym is) (summing_less S D (take i P) e sum so off))

-- the sum is small
pub sum_small : (S : List Point) (D : List Costed) (P : List Pair) (i sum : ℕ) → length P ≤ 13000000 → IsSumming S D (take i P) sum → sum ≤ 13000000000
sum_small S D P i sum few so =
    let low = so.small in
    let all = length-append (take i P) (drop i P) in
    let whole = ap length (take-append-drop i P) in
    omega (arith, low, all, whole, few)

-- the border pairs of a triangulation are all border pairs
border_list : (S : List Point) (pairs B : List Pair) → IsTriangulation S pairs → AreBorderOf S pairs B → IsBorderList S B
border_list S pairs B tri of = record {
  within = λ e h. tri.within e (of.there e h).0;
  distinct = ascending_distinct B of.ascending;
  exact = λ i j low high. (
    λ h. (let (e, has, ends) = joined B i j h in let at : IsBorderPair S e.lo e.hi = (of.there e (contains_of B e has)).1 in elim ends [
      | inl s ↦ subst (λ (x : ℕ). IsBorderPair S x j) s.0 (subst (λ (y : ℕ). IsBorderPair S e.lo y) s.1 at)
      | inr s ↦ absurd (omega (arith, s.0, s.1, e.ordered, low))
    ]),
    λ at. (let (e, has, ends) = joined pairs i j (tri.border i j low high at) in elim ends [
      | inl s ↦ joins_of B e i j (has_of B e (of.all e (contains_of pairs e has) (subst (λ (x : ℕ). IsBorderPair S x e.hi) (sym s.0) (subst (λ (y : ℕ). IsBorderPair S i y) (sym s.1) at)))) (inl s)
      | inr s ↦ absurd (omega (arith, s.0, s.1, e.ordered, low))
    ]),
  );
}

pub border_cost_is : (S : List Point) (D : List Costed) (pairs : List Pair) (sum : ℕ) → IsTriangulation S pairs → IsSumming S D pairs sum → IsBorderCost S D sum
border_cost_is S D pairs sum tri so = (so.border, border_list S pairs so.border tri so.of, so.is)

-- the sum of all
pub sum_all : (S : List Point) (D : List Costed) (P : List Pair) (i sum : ℕ) → length P ≤ i → IsTriangulation S P → IsSumming S D (take i P) sum → IsBorderCost S D sum
sum_all S D P i sum h tri so = border_cost_is S D P sum tri (subst (λ (l : List Pair). IsSumming S D l sum) (take_all i P h) so)
