-- The kept answers by names stay right where a mark comes.
use Rattle.std.proofs.Common.{◌≡◌, ◌≢◌, ℕ, ◌<◌, Bool, true, false, List, length, set, inl, inr, ◌↔◌, IsTrue, arith, sym, ◌∙◌, ap, subst, refl, Some, None, get_or-set_other, get_or-set_same, length-set}
use Rattle.std.proofs.lemmas.Bool.{false≢true}
use Rattle.plane.specs.declared.coordinates.Point.{Point}
use Rattle.star.specs.Stars.{entry, IsOrderly}
use Rattle.star.proofs.Listed.{orderly_marked}
use Rattle.star.specs.declared.links.Link.{Link}
use Rattle.star.specs.Gaps.{IsKept, IsKeptAfter, IsKeptBefore, IsWide, MissesSome}
use Rattle.star.specs.Links.{link, IsAfterOrNone}
use Rattle.star.specs.Links.{IsRightLink, HasRightLinks, HasLink, IsSetLink, IsPutIn, IsMended}
use Rattle.number_laws.proofs.Naturals.{equal_or_not}
use Rattle.star.proofs.Gaps.{missed_with_wide_gap, not_ahead_of_itself, half_turn_of_need}
use Rattle.star.proofs.Without.{IsWithout, set_with}
use Rattle.star.proofs.Answers.{missed_with_small_gap}
use Rattle.star.proofs.Dropped.{right_of, seat_before}
use Rattle.star.proofs.Splits.{missed_with_mark}
use Rattle.star.proofs.KeptOrder.{after_of_before, before_of_after, after_more, before_more, before_by_next}

pub set_has : (S : List Point) (c : ℕ) (old new : List Link) (k x y : ℕ) → k < length old → IsSetLink S c old new k x y → HasLink S c new k x y
set_has S c old new k x y hk s =
    let l : Link = record { before = x; after = y; opens = s.answer } in
    let e : link new k ≡ l = ap (λ xs. link xs k) s.links ∙ get_or-set_same old k l (record { before = 0; after = 0; opens = false }) hk in
    record {
      is_before = ap (λ (z : Link). z.before) e;
      is_after = ap (λ (z : Link). z.after) e;
      opens = subst (λ (z : Link). IsTrue z.opens ↔ IsWide S c x y) (sym e) s.opens;
    }

set_other : (S : List Point) (c : ℕ) (old new : List Link) (k x y m : ℕ) → m ≢ k → IsSetLink S c old new k x y → link new m ≡ link old m
set_other S c old new k x y m ne s =
    let l : Link = record { before = x; after = y; opens = s.answer } in
    ap (λ xs. link xs m) s.links ∙ get_or-set_other old k m l (record { before = 0; after = 0; opens = false }) ne

pub set_len : (S : List Point) (c : ℕ) (old new : List Link) (k x y : ℕ) → IsSetLink S c old new k x y → length new ≡ length old
set_len S c old new k x y s =
    let l : Link = record { before = x; after = y; opens = s.answer } in
    ap (λ xs. length xs) s.links ∙ length-set old k l

has_moved : (S : List Point) (c : ℕ) (old new : List Link) (m x y : ℕ) → link new m ≡ link old m → HasLink S c old m x y → HasLink S c new m x y
has_moved S c old new m x y e has = record {
  is_before = ap (λ (z : Link). z.before) e ∙ has.is_before;
  is_after = ap (λ (z : Link). z.after) e ∙ has.is_after;
  opens = subst (λ (z : Link). IsTrue z.opens ↔ IsWide S c x y) (sym e) has.opens;
}

pub put_in_by : (S : List Point) (c : ℕ) (old one two three : List Link) (k a b r p q outer next : ℕ) → a ≢ b → a ≢ k → b ≢ k → k < length old → a < length old → b < length old
    → outer ≡ (link old a).before → next ≡ (link old b).after → IsSetLink S c old one k p q → IsSetLink S c one two a outer r → IsSetLink S c two three b r next → IsPutIn S c old three k a b r p q
put_in_by S c old one two three k a b r p q outer next ab ak bk hk ha hb eo en s1 s2 s3 =
    let l1 : length one ≡ length old = set_len S c old one k p q s1 in
    let l2 : length two ≡ length one = set_len S c one two a outer r s2 in
    let l3 : length three ≡ length two = set_len S c two three b r next s3 in
    record {
      len = l3 ∙ l2 ∙ l1;
      others = λ m ma mb mk. set_other S c two three b r next m mb s3 ∙ set_other S c one two a outer r m ma s2 ∙ set_other S c old one k p q m mk s1;
      own = has_moved S c one three k p q (set_other S c two three b r next k (λ e. bk (sym e)) s3 ∙ set_other S c one two a outer r k (λ e. ak (sym e)) s2) (set_has S c old one k p q hk s1);
      alone = λ e. absurd (ab e);
      first = λ ne. subst (λ z. HasLink S c three a z r) eo (has_moved S c two three a outer r (set_other S c two three b r next a ab s3) (set_has S c one two a outer r (omega arith) s2));
      second = λ ne. subst (λ z. HasLink S c three b r z) en (set_has S c two three b r next (omega arith) s3);
    }

kept_more : (S : List Point) (c : ℕ) (list new : List (ℕ × Bool)) (links links' : List Link) (w w' : Bool) (k a b r p q : ℕ) → HasRightLinks S c list links w → IsWithout new list k → (IsTrue w' ↔ MissesSome S c new)
    → IsOrderly S c new → IsKeptBefore new k a → IsKeptAfter new k b → a ≢ k → b ≢ k → (entry new k).0 ≡ r → (entry new a).0 ≡ p → (entry new b).0 ≡ q → IsPutIn S c links links' k a b r p q → HasRightLinks S c new links' w'
kept_more S c list new links links' w w' k a b r p q ar wo answer so before after ak bk er ep eq opened = record {
  accepted = ar.accepted;
  order = so;
  len = opened.len ∙ ar.len ∙ wo.len;
  right = right_at;
  wide = answer;
}
  where
    old_a : IsKept list a
    old_a = wo.stays a before.kept ak

    old_b : IsKept list b
    old_b = wo.stays b after.kept bk

    names : (i : ℕ) → (entry new i).0 ≡ (entry list i).0
    names i = sym (wo.names i)

    from_a : IsKeptAfter new a k
    from_a = after_of_before new k a wo.kept before

    from_b : IsKeptBefore new b k
    from_b = before_of_after new k b wo.kept after

    one : a ≡ b → IsRightLink S c new a (link links' a)
    one e = right_of S c new links' a k k r r (opened.alone e) (subst (λ z. IsKeptBefore new z k) (sym e) from_b) from_a er er

    at_a : a ≢ b → IsRightLink S c new a (link links' a)
    at_a ne =
        let g = ar.right a old_a in
        right_of S c new links' a g.first k (link links a).before r (opened.first ne) (before_more list new k b a g.first wo after old_a ne g.before) from_a (names g.first ∙ g.before_name) er

    at_b : a ≢ b → IsRightLink S c new b (link links' b)
    at_b ne =
        let g = ar.right b old_b in
        right_of S c new links' b k g.second r (link links b).after (opened.second ne) from_b (after_more list new k a b g.second wo before old_b (λ e. ne (sym e)) g.after) er (names g.second ∙ g.after_name)

    elsewhere : (m : ℕ) → IsKept new m → m ≢ k → m ≢ a → m ≢ b → IsRightLink S c new m (link links' m)
    elsewhere m km mk ma mb =
        let old = wo.stays m km mk in
        let g = ar.right m old in
        subst (λ l. IsRightLink S c new m l) (sym (opened.others m ma mb mk)) (record {
          first = g.first;
          second = g.second;
          before = before_more list new k b m g.first wo after old mb g.before;
          after = after_more list new k a m g.second wo before old ma g.after;
          before_name = names g.first ∙ g.before_name;
          after_name = names g.second ∙ g.after_name;
          opens = g.opens;
        })

    right_at : (m : ℕ) → IsKept new m → IsRightLink S c new m (link links' m)
    right_at m km = elim (equal_or_not m k) [
      | inl e ↦ subst (λ z. IsRightLink S c new z (link links' z)) (sym e) (right_of S c new links' k a b p q opened.own before after ep eq)
      | inr mk ↦ elim (equal_or_not a b) [
        | inl e ↦ elim (equal_or_not m a) [
          | inl h ↦ subst (λ z. IsRightLink S c new z (link links' z)) (sym h) (one e)
          | inr ma ↦ elsewhere m km mk ma (λ h. ma (h ∙ sym e))
        ]
        | inr ne ↦ elim (equal_or_not m a) [
          | inl h ↦ subst (λ z. IsRightLink S c new z (link links' z)) (sym h) (at_a ne)
          | inr ma ↦ elim (equal_or_not m b) [
            | inl h ↦ subst (λ z. IsRightLink S c new z (link links' z)) (sym h) (at_b ne)
            | inr mb ↦ elsewhere m km mk ma mb
          ]
        ]
      ]
    ]

-- the links with k's, where another is kept, are those of the list with its mark
pub linked_in : (S : List Point) (c : ℕ) (list : List (ℕ × Bool)) (links ns : List Link) (w w' : Bool) (k r p q a b : ℕ) → HasRightLinks S c list links w → k < length list → (entry list k).1 ≡ false → r ≡ (entry list k).0
    → IsAfterOrNone list k (Some b) → p ≡ (link links b).before → q ≡ (entry list b).0 → a < length list → (entry list a).0 ≡ p → IsMended S c w r p q w' → IsPutIn S c links ns k a b r p q
    → HasRightLinks S c (set list k ((entry list k).0, true)) ns w'
linked_in S c list links ns w w' k r p q a b ar hk spare er next ep eq ha ea mended opened =
    kept_more S c list new links ns w w' k a b r p q ar wo (answer mended_here) so before after ak next.0 (sym (wo.names k) ∙ sym er) name_a name_b opened
  where
    new : List (ℕ × Bool)
    new = set list k ((entry list k).0, true)

    free : ¬ IsKept list k
    free h = false≢true (sym spare ∙ h.1)

    wo : IsWithout new list k
    wo = set_with list k (entry list k).0 hk free refl

    so : IsOrderly S c new
    so = orderly_marked S c list k (entry list k).0 true ar.order hk refl

    name_a : (entry new a).0 ≡ p
    name_a = sym (wo.names a) ∙ ea

    name_b : (entry new b).0 ≡ q
    name_b = sym (wo.names b) ∙ sym eq

    was : IsKeptBefore list k a
    was = before_by_next list k a b free next.1.kept next.1 (seat_before S c list links w b a ar next.1.kept ha (ea ∙ ep))

    ak : a ≢ k
    ak = (wo.rest a was.kept).0

    before : IsKeptBefore new k a
    before = record { kept = (wo.rest a was.kept).1; last = λ m km mk ma. was.last m (wo.stays m km mk) mk ma }

    after : IsKeptAfter new k b
    after = record { kept = (wo.rest b next.1.kept).1; first = λ m km mk mb. next.1.first m (wo.stays m km mk) mk mb }

    mended_here : IsMended S c w (entry new k).0 (entry new a).0 (entry new b).0 w'
    mended_here =
        subst (λ x. IsMended S c w x (entry new a).0 (entry new b).0 w') (er ∙ wo.names k)
        (subst (λ x. IsMended S c w r x (entry new b).0 w') (sym name_a)
        (subst (λ x. IsMended S c w r p x w') (sym name_b) mended))

    answer : IsMended S c w (entry new k).0 (entry new a).0 (entry new b).0 w' → IsTrue w' ↔ MissesSome S c new
    answer (inl (wide, iff)) =
        let m = missed_with_mark S c new k a b ar.accepted so wo.kept before after wide in
        (λ t. m.1 (iff.0 t), λ h. iff.1 (m.0 h))
    answer (inr (small, e)) =
        subst (λ z. IsTrue z ↔ MissesSome S c new) (sym e) (missed_with_small_gap S c list new w k a b ar.accepted wo so before after ar.wide small)

-- the link of the first kept neighbour
pub linked_alone : (S : List Point) (c : ℕ) (list : List (ℕ × Bool)) (links ns : List Link) (w : Bool) (k r : ℕ) → HasRightLinks S c list links w → k < length list → (entry list k).1 ≡ false → r ≡ (entry list k).0
    → IsAfterOrNone list k None → IsSetLink S c links ns k r r → HasRightLinks S c (set list k ((entry list k).0, true)) ns true
linked_alone S c list links ns w k r ar hk spare er next is_set = record {
  accepted = ar.accepted;
  order = so;
  len = set_len S c links ns k r r is_set ∙ ar.len ∙ wo.len;
  right = λ m km. elim (equal_or_not m k) [
    | inl e ↦ subst (λ z. IsRightLink S c new z (link ns z)) (sym e) (right_of S c new ns k k k r r (set_has S c links ns k r r (omega (arith, ar.len)) is_set) before after own own)
    | inr ne ↦ absurd (bare m (wo.stays m km ne))
  ];
  wide = (λ t. (missed_with_wide_gap S c new ar.accepted so).1 (inr (k, k, wo.kept, after, wide)), λ h. refl);
}
  where
    new : List (ℕ × Bool)
    new = set list k ((entry list k).0, true)

    free : ¬ IsKept list k
    free h = false≢true (sym spare ∙ h.1)

    bare : (m : ℕ) → ¬ IsKept list m
    bare m km = free (subst (λ z. IsKept list z) (next m km) km)

    wo : IsWithout new list k
    wo = set_with list k (entry list k).0 hk free refl

    so : IsOrderly S c new
    so = orderly_marked S c list k (entry list k).0 true ar.order hk refl

    own : (entry new k).0 ≡ r
    own = sym (wo.names k) ∙ sym er

    before : IsKeptBefore new k k
    before = record { kept = wo.kept; last = λ m km mk _. absurd (bare m (wo.stays m km mk)) }

    after : IsKeptAfter new k k
    after = record { kept = wo.kept; first = λ m km mk _. absurd (bare m (wo.stays m km mk)) }

    wide : IsWide S c (entry new k).0 (entry new k).0
    wide h = not_ahead_of_itself S c new k k ar.accepted.apart so wo.kept.0 refl (half_turn_of_need S c new (entry new k).0 k ar.accepted.apart so (so.within k wo.kept.0) (so.apart k wo.kept.0) wo.kept.0 h)
