-- The border pairs among the segments of a triangulation.
use Rattle.std.proofs.Common.{◌≡◌, ◌≢◌, ◌↔◌, ℕ, suc, ◌+◌, ◌<◌, ◌≤◌, ◌⊎◌, inl, inr, List, [], ◌∷◌, ◌++◌, length, sym, ◌∙◌, ap, subst, refl, arith}
use Rattle.std.specs.Prelude.{Option, Some, None, is_some, true, false, pos, neg_ℤ, ℤ, ◌<ℤ◌, ◌≤ℤ◌}
use Rattle.std.specs.List.{AllPairs, Contains}
use Rattle.std.proofs.lemmas.List.Kept.{AllPairs-cons}
use Rattle.std.proofs.lemmas.List.Elements.{Contains-get_or}
use Rattle.plane.specs.declared.coordinates.Point.{Point}
use Rattle.plane.specs.declared.segment.Pair.{Pair}
use Rattle.plane.specs.Geometry.{orientation, point, IsBorderPair, HasAllLeft}
use Rattle.plane.proofs.laws.Area.{area_back}
use Rattle.partition_defs.specs.Ascending.{IsAscending, ComesFirst}
use Rattle.partition_defs.specs.Partition.{HasEnds, Joins}
use Rattle.partition_defs.specs.Triangulation.{AreDistinct, HasLeft, IsBorderList, IsTriangulation}
use Rattle.partition_defs.proofs.laws.Has.{Has, has_of, contains_of, Rises, rises_of, has_at}
use Rattle.partition_defs.proofs.laws.Joined.{joined, joins_of, join_own, join_back}
use Rattle.number_laws.proofs.Signs.{negative_or}
use Rattle.std.proofs.lemmas.Bool.{false≢true}
use Rattle.std.proofs.lemmas.Int.{ints}
use Rattle.subdivision.specs.Layout.{IsApexOrNone}
use Rattle.lower_bounds.specs.Border.{AreBorderAmong}
use Rattle.partition_defs.proofs.laws.Sides.{all_behind}

-- what is found stands in the list
found_there : (S : List Point) (pairs found : List Pair) → AreBorderAmong S pairs found → (e : Pair) → Has e found → Has e pairs
found_there S [] found is e h = subst (Has e) is h
found_there S (x ∷ pairs) found (inl (at, (rest, is, more))) e h = elim (subst (Has e) is h) [
  | inl same ↦ inl same
  | inr k ↦ inr (found_there S pairs rest more e k)
]
found_there S (x ∷ pairs) found (inr (not, more)) e h = inr (found_there S pairs found more e h)

found_border : (S : List Point) (pairs found : List Pair) → AreBorderAmong S pairs found → (e : Pair) → Has e found → IsBorderPair S e.lo e.hi
found_border S [] found is e h = absurd (subst (Has e) is h)
found_border S (x ∷ pairs) found (inl (at, (rest, is, more))) e h = elim (subst (Has e) is h) [
  | inl same ↦ subst (λ (z : Pair). IsBorderPair S z.lo z.hi) same at
  | inr k ↦ found_border S pairs rest more e k
]
found_border S (x ∷ pairs) found (inr (not, more)) e h = found_border S pairs found more e h

border_found : (S : List Point) (pairs found : List Pair) → AreBorderAmong S pairs found → (e : Pair) → Has e pairs → IsBorderPair S e.lo e.hi → Has e found
border_found S [] found is e h at = absurd h
border_found S (x ∷ pairs) found (inl (own, (rest, is, more))) e h at = subst (Has e) (sym is) (elim h [
  | inl same ↦ inl same
  | inr k ↦ inr (border_found S pairs rest more e k at)
])
border_found S (x ∷ pairs) found (inr (not, more)) e h at = elim h [
  | inl same ↦ absurd (not (subst (λ (z : Pair). IsBorderPair S z.lo z.hi) (sym same) at))
  | inr k ↦ border_found S pairs found more e k at
]

-- it ascends as the list does
found_rises : (S : List Point) (pairs found : List Pair) → AreBorderAmong S pairs found → Rises pairs → Rises found
found_rises S [] found is r = subst Rises (sym is) tt
found_rises S (x ∷ pairs) found (inl (at, (rest, is, more))) r =
    subst Rises (sym is) ((λ y h. r.0 y (found_there S pairs rest more y h)), found_rises S pairs rest more r.1)
found_rises S (x ∷ pairs) found (inr (not, more)) r = found_rises S pairs found more r.1

-- so no pair stands twice
rising_distinct : (pairs : List Pair) → Rises pairs → AreDistinct pairs
rising_distinct [] r = λ i j d ij h. absurd (omega arith)
rising_distinct (x ∷ pairs) r =
    AllPairs-cons (λ e f. e ≢ f) x pairs (λ k d l same. not_first x (subst (λ (z : Pair). ComesFirst x z) (sym same) (r.0 _ (has_at pairs k d l)))) (rising_distinct pairs r.1)
  where
    not_first : (e : Pair) → ¬ ComesFirst e e
    not_first e (inl low) = omega (arith, low)
    not_first e (inr (is, low)) = omega (arith, low)

-- one segment more, at the border or not
pub border_more : (S : List Point) (pairs found : List Pair) (e : Pair) → AreBorderAmong S pairs found → IsBorderPair S e.lo e.hi → AreBorderAmong S (pairs ++ e ∷ []) (found ++ e ∷ [])
border_more S [] found e is at = inl (at, ([], ap (λ (f : List Pair). f ++ e ∷ []) is, refl))
border_more S (x ∷ pairs) found e (inl (own, (rest, is, more))) at = inl (own, (rest ++ e ∷ [], ap (λ (f : List Pair). f ++ e ∷ []) is, border_more S pairs rest e more at))
border_more S (x ∷ pairs) found e (inr (not, more)) at = inr (not, border_more S pairs found e more at)

pub border_less : (S : List Point) (pairs found : List Pair) (e : Pair) → AreBorderAmong S pairs found → ¬ IsBorderPair S e.lo e.hi → AreBorderAmong S (pairs ++ e ∷ []) found
border_less S [] found e is off = inr (off, is)
border_less S (x ∷ pairs) found e (inl (own, (rest, is, more))) off = inl (own, (rest, is, border_less S pairs rest e more off))
border_less S (x ∷ pairs) found e (inr (not, more)) off = inr (not, border_less S pairs found e more off)

-- the border pairs of a triangulation are all border pairs
pub border_list : (S : List Point) (pairs found : List Pair) → IsTriangulation S pairs → IsAscending pairs → AreBorderAmong S pairs found → IsBorderList S found
border_list S pairs found tri rises all = record {
  within = λ e h. tri.within e (contains_of pairs e (found_there S pairs found all e (has_of found e h)));
  distinct = rising_distinct found (found_rises S pairs found all (rises_of pairs rises));
  exact = λ i j low high. (
    λ h. (let (e, has, ends) = joined found i j h in let at : IsBorderPair S e.lo e.hi = found_border S pairs found all e has in elim ends [
      | inl s ↦ subst (λ (x : ℕ). IsBorderPair S x j) s.0 (subst (λ (y : ℕ). IsBorderPair S e.lo y) s.1 at)
      | inr s ↦ absurd (omega (arith, s.0, s.1, e.ordered, low))
    ]),
    λ at. (let (e, has, ends) = joined pairs i j (tri.border i j low high at) in elim ends [
      | inl s ↦ joins_of found e i j (border_found S pairs found all e has (subst (λ (x : ℕ). IsBorderPair S x e.hi) (sym s.0) (subst (λ (y : ℕ). IsBorderPair S i y) (sym s.1) at))) (inl s)
      | inr s ↦ absurd (omega (arith, s.0, s.1, e.ordered, low))
    ]),
  );
}

-- where no point is left of p to q all are left of q to p
turned : (x y : ℤ) → x ≡ neg_ℤ y → (pos 0 <ℤ y → ⊥) → pos 0 ≤ℤ x
turned x y e f = elim (negative_or y) [
  | inl low ↦ omega (arith, ints)
  | inr (inl is) ↦ omega (arith, ints)
  | inr (inr high) ↦ absurd (f high)
]

none_left : (S : List Point) (p q : ℕ) → HasAllLeft S q p → ¬ HasLeft S p q
none_left S p q all (k, low, left) = not_both (orientation S p q k) (orientation S q p k) (area_back (point S p) (point S q) (point S k)) left (all k low)
  where
    not_both : (x y : ℤ) → x ≡ neg_ℤ y → pos 0 <ℤ x → pos 0 ≤ℤ y → ⊥
    not_both x y e h w = omega (arith, ints)

-- a segment of a triangulation has no apex on a side exactly where no point is on it
apex_none : (S : List Point) (T : List Pair) (p q : ℕ) (r : Option ℕ) → Joins T p q → IsApexOrNone S T p q r → is_some r ≡ false → ¬ HasLeft S p q
apex_none S T p q None joins is t = is joins
apex_none S T p q (Some r) joins is t = absurd (false≢true (sym t))

apex_some : (S : List Point) (T : List Pair) (p q : ℕ) (r : Option ℕ) → IsApexOrNone S T p q r → is_some r ≡ true → HasLeft S p q
apex_some S T p q None is t = absurd (false≢true t)
apex_some S T p q (Some r) (joins, apex, one) t = (r, apex.within, apex.left)

-- the apexes of p to q and of q to p, as they are told
pub record HasApexes (S : List Point) (T : List Pair) (e : Pair) (a b : Option ℕ) : Type 0 where
  pub triangulation : IsTriangulation S T
  pub there : Contains T e
  pub left : IsApexOrNone S T e.lo e.hi a
  pub right : IsApexOrNone S T e.hi e.lo b

-- it is a border pair exactly where it has none on one of its sides
pub left_border : (S : List Point) (T : List Pair) (e : Pair) (a b : Option ℕ) → HasApexes S T e a b → is_some a ≡ false → IsBorderPair S e.lo e.hi
left_border S T e a b h t = (h.triangulation.clear e h.there, inr (all_behind S e.lo e.hi (apex_none S T e.lo e.hi a (join_own T e (has_of T e h.there)) h.left t)))

pub right_border : (S : List Point) (T : List Pair) (e : Pair) (a b : Option ℕ) → HasApexes S T e a b → is_some b ≡ false → IsBorderPair S e.lo e.hi
right_border S T e a b h t =
    (h.triangulation.clear e h.there, inl (all_behind S e.hi e.lo (apex_none S T e.hi e.lo b (join_back T e.lo e.hi (join_own T e (has_of T e h.there))) h.right t)))

pub no_border : (S : List Point) (T : List Pair) (e : Pair) (a b : Option ℕ) → HasApexes S T e a b → is_some a ≡ true → is_some b ≡ true → ¬ IsBorderPair S e.lo e.hi
no_border S T e a b h f g at = elim at.1 [
  | inl l ↦ none_left S e.hi e.lo l (apex_some S T e.hi e.lo b h.right g)
  | inr r ↦ none_left S e.lo e.hi r (apex_some S T e.lo e.hi a h.left f)
]
