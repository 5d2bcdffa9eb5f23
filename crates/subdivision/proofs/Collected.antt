-- The lists that are collected from the stars.
use Rattle.std.proofs.Common.{◌≡◌, ◌≢◌, ℕ, ◌+◌, ◌<◌, Bool, true, false, List, [], ◌∷◌, ◌++◌, length, get_or, ◌⊎◌, inl, inr, ◌↔◌, arith, sym, ◌∙◌, ap, subst, refl, IsTrue}
use Rattle.std.specs.List.{AllPairs, Contains}
use Rattle.std.proofs.lemmas.Bool.{false≢true}
use Rattle.std.proofs.lemmas.List.Quantifiers.{all_pairs_push}
use Rattle.plane.specs.declared.segment.Pair.{Pair}
use Rattle.star.specs.Stars.{Seen, entry}
use Rattle.subdivision.specs.Layout.{star_at}
use Rattle.subdivision.specs.Listing.{picks, IsTidy, IsPicked, HasRow, HasRows, Collects}
use Rattle.plane.proofs.laws.Pairs.{pair_same}
use Rattle.partition_defs.proofs.laws.Has.{has_of, contains_of, has_at, has_append, append_has}
use Rattle.subdivision.proofs.Members.{neighbour_of, has_neighbour, mark_of, has_mark}
use Rattle.number_laws.proofs.Naturals.{below_or_last}

contains_more : (list : List Pair) (p e : Pair) → Contains (list ++ p ∷ []) e ↔ (Contains list e ⊎ (p ≡ e))
contains_more list p e = (
  λ h. elim (has_append list (p ∷ []) e (has_of (list ++ p ∷ []) e h)) [ inl k ↦ inl (contains_of list e k) | inr k ↦ elim k [ inl same ↦ inr same | inr none ↦ absurd none ] ],
  λ h. contains_of (list ++ p ∷ []) e (append_has list (p ∷ []) e (elim h [ inl k ↦ inl (has_of list e k) | inr k ↦ inr (inl k) ])),
)

pub row_begins : (ko : Bool) (old : List Pair) (v : ℕ) (s : Seen) → AllPairs (λ e f. e ≢ f) old → HasRow ko old old v s 0
row_begins ko old v s distinct = record {
  distinct = distinct;
  members = λ e. (λ h. inl h, λ h. elim h [ inl k ↦ k | inr k ↦ absurd (let (j, low, inside, name, mark) = k.1 in omega arith) ]);
}

-- the step to the next neighbour
pub row_step : (ko : Bool) (old list new : List Pair) (v : ℕ) (s : Seen) (k w : ℕ) (kept wanted : Bool) (n : ℕ) → HasRow ko old list v s k → ((e : Pair) → Contains old e → e.lo ≢ v) → IsTidy n s → k < length s.list → entry s.list k ≡ (w, kept)
    → (IsTrue wanted ↔ (ko ≡ true → kept ≡ true)) → Collects list new v w wanted → HasRow ko old new v s (k + 1)
row_step ko old list new v s k w kept wanted n so none tidy hk at means (inl (rises, wants, more)) =
    let (p, lo, hi, is) = more in
    let picked : IsPicked ko s (k + 1) p.hi = (k, omega arith, hk, ap (λ (e : ℕ × Bool). e.0) at ∙ sym hi, λ t. ap (λ (e : ℕ × Bool). e.1) at ∙ means.0 wants t) in
    let fresh : (e : Pair) → Contains list e → e ≢ p = λ e h same. elim ((so.members e).0 h) [
      | inl k ↦ none e k (ap (λ (z : Pair). z.lo) same ∙ lo)
      | inr k ↦ (let (j, low, inside, name, mark) = k.1 in tidy.0 j _ low hk (name ∙ ap (λ (z : Pair). z.hi) same ∙ hi ∙ sym (ap (λ (e : ℕ × Bool). e.0) at)))
    ] in
    record {
      distinct = subst (AllPairs (λ e f. e ≢ f)) (sym is) (all_pairs_push (λ e f. e ≢ f) list p so.distinct (λ i d h. fresh (get_or list i d) (contains_of list (get_or list i d) (has_at list i d h))));
      members = λ e. (
        λ h. elim ((contains_more list p e).0 (subst (λ xs. Contains xs e) is h)) [
          | inl m ↦ elim ((so.members e).0 m) [ inl o ↦ inl o | inr o ↦ inr (o.0, (let (j, low, rest, name, mark) = o.1 in (j, omega arith, rest, name, mark))) ]
          | inr same ↦ inr (sym (ap (λ (z : Pair). z.lo) same) ∙ lo, subst (λ (z : Pair). IsPicked ko s (k + 1) z.hi) same picked)
        ],
        λ h. subst (λ xs. Contains xs e) (sym is) ((contains_more list p e).1 (elim h [
          | inl o ↦ inl ((so.members e).1 (inl o))
          | inr o ↦ (let (j, low, inside, name, mark) = o.1 in elim (below_or_last j k low) [
            | inl less ↦ inl ((so.members e).1 (inr (o.0, (j, less, inside, name, mark))))
            | inr same ↦ inr (pair_same p e (lo ∙ sym o.0) (hi ∙ sym (ap (λ (x : ℕ × Bool). x.0) at) ∙ sym (ap (λ i. (entry s.list i).0) same) ∙ name))
          ])
        ])),
      );
    }
row_step ko old list new v s k w kept wanted n so none tidy hk at means (inr (not, is)) = record {
  distinct = subst (AllPairs (λ e f. e ≢ f)) (sym is) so.distinct;
  members = λ e. (
    λ h. elim ((so.members e).0 (subst (λ xs. Contains xs e) is h)) [ inl o ↦ inl o | inr o ↦ inr (o.0, (let (j, low, rest, name, mark) = o.1 in (j, omega arith, rest, name, mark))) ],
    λ h. subst (λ xs. Contains xs e) (sym is) ((so.members e).1 (elim h [
      | inl o ↦ inl o
      | inr o ↦ (let (j, low, inside, name, mark) = o.1 in elim (below_or_last j k low) [
        | inl less ↦ inr (o.0, (j, less, inside, name, mark))
        | inr same ↦ absurd (not (out e o.0 (sym (ap (λ (x : ℕ × Bool). x.0) at) ∙ sym (ap (λ i. (entry s.list i).0) same) ∙ name), means.1 (λ t. sym (ap (λ (x : ℕ × Bool). x.1) at) ∙ sym (ap (λ i. (entry s.list i).1) same) ∙ mark t)))
      ])
    ])),
  );
}
  where
    out : (e : Pair) → e.lo ≡ v → w ≡ e.hi → v < w
    out e a b = omega (arith, a, b, e.ordered)

-- what the tests of a star say of its neighbours
picked_test : (ko : Bool) (s : Seen) (w : ℕ) → IsPicked ko s (length s.list) w ↔ (picks ko s w ≡ true)
picked_test true s w = (
  λ h. (let (j, low, inside, name, mark) = h in has_mark s w (j, inside, ap (λ (n : ℕ). let p : ℕ × Bool = (n, (entry s.list j).1) in p) name ∙ ap (λ (b : Bool). let p : ℕ × Bool = (w, b) in p) (mark refl))),
  λ t. (let (j, inside, at) = mark_of s w t in (j, inside, inside, ap (λ (p : ℕ × Bool). p.0) at, λ _. ap (λ (p : ℕ × Bool). p.1) at)),
)
picked_test false s w = (
  λ h. (let (j, low, inside, name, mark) = h in has_neighbour s w (j, (inside, name))),
  λ t. (let (j, place) = neighbour_of s w t in (j, place.0, place.0, place.1, λ k. absurd (false≢true k))),
)

pub rows_begin : (ko : Bool) (stars : List Seen) → HasRows ko stars [] 0
rows_begin ko stars = record { distinct = λ i j d ij h. absurd (omega arith); members = λ e. (λ h. absurd (has_of [] e h), λ h. absurd (omega (arith, h.0))) }

-- the step to the next star
rows_more : (ko : Bool) (stars : List Seen) (list new : List Pair) (v : ℕ) (s : Seen) → HasRows ko stars list v → v < length stars → s ≡ star_at stars v → HasRow ko list new v s (length s.list) → HasRows ko stars new (v + 1)
rows_more ko stars list new v s so hv is row = record {
  distinct = row.distinct;
  members = λ e. (
    λ h. elim ((row.members e).0 h) [
      | inl k ↦ (let r = (so.members e).0 k in (omega (arith, r.0), r.1, r.2))
      | inr k ↦ (
        omega (arith, k.0),
        omega (arith, k.0, hv),
        (let P : ℕ → Type 0 = λ x. picks ko (star_at stars x) e.hi ≡ true in
            subst P (sym k.0) (subst (λ (t : Seen). picks ko t e.hi ≡ true) is ((picked_test ko s e.hi).0 k.1))),
      )
    ],
    λ h. (row.members e).1 (elim (below_or_last e.lo v h.0) [
      | inl low ↦ inl ((so.members e).1 (low, h.1, h.2))
      | inr at ↦ inr (at, (picked_test ko s e.hi).1 (subst (λ (t : Seen). picks ko t e.hi ≡ true) (sym is) (let P : ℕ → Type 0 = λ x. picks ko (star_at stars x) e.hi ≡ true in subst P at h.2)))
    ]),
  );
}

pub rows_step : (ko : Bool) (stars : List Seen) (list new : List Pair) (v c : ℕ) (s : Seen) → HasRows ko stars list v → v < length stars → s ≡ star_at stars v → c ≡ v → HasRow ko list new c s (length s.list) → HasRows ko stars new (v + 1)
rows_step ko stars list new v c s so hv is same row = let P : ℕ → Type 0 = λ x. HasRow ko list new x s (length s.list) in rows_more ko stars list new v s so hv is (subst P same row)

pub rows_apart : (ko : Bool) (stars : List Seen) (list : List Pair) (v c : ℕ) → HasRows ko stars list v → c ≡ v → (e : Pair) → Contains list e → e.lo ≢ c
rows_apart ko stars list v c so at e h same = omega (arith, ((so.members e).0 h).0, same, at)
