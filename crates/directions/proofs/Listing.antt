-- The list of the clear pairs as it grows.
use Rattle.std.proofs.Common.{◌≡◌, ◌≢◌, ℕ, ◌+◌, ◌<◌, ◌≤◌, ◌⊎◌, inl, inr, refl, sym, ◌∙◌, subst, List, [], ◌∷◌, ◌++◌, length, slice_index_or, arith}
use Rattle.std.specs.List.{AllPairs, Contains}
use Rattle.std.proofs.lemmas.List.Elements.{Contains-push, Contains-push_cases, Contains-append_left, Contains-get_or}
use Rattle.std.proofs.lemmas.List.Quantifiers.{all_pairs_push}
use Rattle.number_laws.proofs.Naturals.{below_or_last}
use Rattle.plane.specs.declared.coordinates.Point.{Point}
use Rattle.plane.specs.declared.segment.Pair.{Pair}
use Rattle.plane.specs.First.{ComesBefore}
use Rattle.plane.specs.Geometry.{IsClear}
use Rattle.plane.proofs.laws.Pairs.{pair_same}
use Rattle.directions.specs.Fans.{AreAllClear}
use Rattle.directions.specs.Listing.{AreClearBefore}
use Rattle.partition_defs.proofs.laws.PairOrder.{next_before, still_before}

-- the same list, where no clear pair comes between
before_same : (S : List Point) (a b c d : ℕ) (list : List Pair) → ((e : Pair) → ComesBefore e.lo e.hi a b → ComesBefore e.lo e.hi c d)
    → ((e : Pair) → e.hi < length S → IsClear S e.lo e.hi → ComesBefore e.lo e.hi c d → ComesBefore e.lo e.hi a b) → AreClearBefore S a b list → AreClearBefore S c d list
before_same S a b c d list forth back h = record {
  ascending = h.ascending;
  clear = λ e m. (let x = h.clear e m in (x.0, x.1, forth e x.2));
  all = λ e en clear before. h.all e en clear (back e en clear before);
}

pub passed : (S : List Point) (a b : ℕ) (list : List Pair) → ¬ IsClear S a b → AreClearBefore S a b list → AreClearBefore S a (b + 1) list
passed S a b list none = before_same S a b a (b + 1) list (λ e. still_before e.lo e.hi a b)
    (λ e en clear before. elim (next_before e.lo e.hi a b before) [
      | inl l ↦ l
      | inr s ↦ absurd (none (subst (λ x. IsClear S x b) s.0 (subst (λ y. IsClear S e.lo y) s.1 clear)))
    ])

pub pushed : (S : List Point) (a b : ℕ) (e : Pair) (list : List Pair) → e.lo ≡ a → e.hi ≡ b → b < length S → IsClear S a b
    → AreClearBefore S a b list → AreClearBefore S a (b + 1) (list ++ e ∷ [])
pushed S a b e list el eh bn clear h = record {
  ascending = all_pairs_push (λ (f g : Pair). ComesBefore f.lo f.hi g.lo g.hi) list e h.ascending (λ k d l.
      (
      let f : Pair = slice_index_or list k d in
      let x = h.clear f (Contains-get_or list k d l) in
      let P : ℕ → Type 0 = λ m. ComesBefore f.lo f.hi m e.hi in
      let Q : ℕ → Type 0 = λ n. ComesBefore f.lo f.hi a n in
      subst P (sym el) (subst Q (sym eh) x.2)
      ));
  clear = λ f m. elim (Contains-push_cases list e f m) [
    | inl c ↦ (let x = h.clear f c in (x.0, x.1, still_before f.lo f.hi a b x.2))
    | inr s ↦ subst (λ (g : Pair). (g.hi < length S) × IsClear S g.lo g.hi × ComesBefore g.lo g.hi a (b + 1)) s
        (omega (arith, eh), subst (λ x. IsClear S x e.hi) (sym el) (subst (λ y. IsClear S a y) (sym eh) clear), inr (el, omega (arith, eh)))
  ];
  all = λ f fn fclear before. elim (next_before f.lo f.hi a b before) [
    | inl l ↦ Contains-append_left list (e ∷ []) f (h.all f fn fclear l)
    | inr s ↦ subst (Contains (list ++ e ∷ [])) (pair_same e f (el ∙ sym s.0) (eh ∙ sym s.1)) (Contains-push list e)
  ];
}

pub from_next : (S : List Point) (a : ℕ) (list : List Pair) → AreClearBefore S a 0 list → AreClearBefore S a (a + 1) list
from_next S a list = before_same S a 0 a (a + 1) list
    (λ e c. elim c [ inl h ↦ inl h | inr h ↦ absurd (let g = h.1 in omega arith) ])
    (λ e en clear c. elim c [ inl h ↦ inl h | inr h ↦ absurd (let x = h.0 in let g = h.1 in let o = e.ordered in omega arith) ])

pub all_tried : (S : List Point) (a n : ℕ) (list : List Pair) → n ≡ length S → AreClearBefore S a n list → AreClearBefore S (a + 1) 0 list
all_tried S a n list e = before_same S a n (a + 1) 0 list
    (λ f c. elim c [ inl h ↦ inl (omega arith) | inr h ↦ inl (let x = h.0 in omega arith) ])
    (λ f fn clear c. elim c [
      | inl h ↦ elim (below_or_last f.lo a h) [ inl l ↦ inl l | inr s ↦ inr (s, omega arith) ]
      | inr h ↦ absurd (let g = h.1 in omega arith)
    ])

pub begun : (S : List Point) → AreClearBefore S 0 0 []
begun S = record {
  ascending = λ i j d l m. absurd (omega arith);
  clear = λ e m. absurd (let l = m.1 in omega arith);
  all = λ e en clear c. absurd (elim c [ inl h ↦ omega arith | inr h ↦ (let g = h.1 in omega arith) ]);
}

pub finished : (S : List Point) (n : ℕ) (list : List Pair) → n ≡ length S → AreClearBefore S n 0 list → AreAllClear S list
finished S n list e h = record {
  ascending = h.ascending;
  clear = λ f m. (let x = h.clear f m in (x.0, x.1));
  all = λ f fn clear. h.all f fn clear (inl (let o = f.ordered in omega arith));
}
