-- The first pairs of numbers with a relation, as the list of them grows.
use Rattle.std.proofs.Common.{◌≡◌, refl, ◌⊎◌, inl, inr, ◌<◌, ◌≤◌, ◌+◌, ℕ, List, [], ◌∷◌, ◌++◌, length, sym, subst, arith, length-append}
use Rattle.std.specs.List.{All, Contains}
use Rattle.std.proofs.lemmas.List.Elements.{All-push, Contains-push, Contains-append_left}
use Rattle.std.proofs.lemmas.List.Quantifiers.{all_pairs_push}
use Rattle.plane.specs.declared.coordinates.Point.{Point}
use Rattle.plane.specs.declared.segment.Pair.{Pair}
use Rattle.plane.specs.First.{ComesBefore}
use Rattle.number_laws.proofs.Naturals.{below_or_last}
use Rattle.crossings.specs.Crossings.{AreFirstPairs, CrossesLater, DoCrossAt}
use Rattle.crossings.specs.Trying.{CrossesBefore}
use Rattle.partition_defs.proofs.laws.PairOrder.{next_before, still_before}

pub firsts_none : (R : ℕ → ℕ → Type 0) (most : ℕ) → ((i j : ℕ) → ¬ R i j) → AreFirstPairs R most []
firsts_none R most none = record {
  few = omega arith;
  each = λ k d l. absurd (omega arith);
  ascending = λ i j d l m. absurd (omega arith);
  whole = λ i j r. absurd (none i j r);
}

-- the same of a relation that holds of the same pairs
pub firsts_same : (R Q : ℕ → ℕ → Type 0) (most : ℕ) (list : List (ℕ × ℕ)) → ((i j : ℕ) → R i j → Q i j) → ((i j : ℕ) → Q i j → R i j)
    → AreFirstPairs R most list → AreFirstPairs Q most list
firsts_same R Q most list forth back h = record {
  few = h.few;
  each = λ k d l. forth _ _ (h.each k d l);
  ascending = h.ascending;
  whole = λ i j q. h.whole i j (back i j q);
}

-- a full list stays where only later pairs come to the relation
pub firsts_full : (R Q : ℕ → ℕ → Type 0) (most : ℕ) (list : List (ℕ × ℕ)) → most ≤ length list → ((i j : ℕ) → R i j → Q i j)
    → ((i j : ℕ) → Q i j → R i j ⊎ All (λ (p : ℕ × ℕ). ComesBefore p.0 p.1 i j) list) → AreFirstPairs R most list → AreFirstPairs Q most list
firsts_full R Q most list full forth back h = record {
  few = h.few;
  each = λ k d l. forth _ _ (h.each k d l);
  ascending = h.ascending;
  whole = λ i j q. elim (back i j q) [ inl r ↦ h.whole i j r | inr all ↦ inr (let f = h.few in omega arith, all) ];
}

-- one more pair, which comes after the others
pub firsts_push : (R Q : ℕ → ℕ → Type 0) (most : ℕ) (list : List (ℕ × ℕ)) (a b : ℕ) → length list < most → Q a b → ((i j : ℕ) → R i j → Q i j)
    → ((i j : ℕ) → Q i j → R i j ⊎ ((i ≡ a) × (j ≡ b))) → ((i j : ℕ) → R i j → ComesBefore i j a b)
    → AreFirstPairs R most list → AreFirstPairs Q most (list ++ (a, b) ∷ [])
firsts_push R Q most list a b room here forth back before h = record {
  few = omega (arith, length-append list ((a, b) ∷ []));
  each = All-push (λ (p : ℕ × ℕ). Q p.0 p.1) list (a, b) (λ k d l. forth _ _ (h.each k d l)) here;
  ascending = all_pairs_push (λ (p q : ℕ × ℕ). ComesBefore p.0 p.1 q.0 q.1) list (a, b) h.ascending (λ k d l. before _ _ (h.each k d l));
  whole = λ i j q. elim (back i j q) [
    | inl r ↦ elim (h.whole i j r) [
      | inl c ↦ inl (Contains-append_left list ((a, b) ∷ []) (i, j) c)
      | inr full ↦ absurd (let e = full.0 in omega arith)
    ]
    | inr e ↦ inl (
        let P : ℕ → Type 0 = λ x. Contains (list ++ (a, b) ∷ []) (x, j) in
        let Q : ℕ → Type 0 = λ y. Contains (list ++ (a, b) ∷ []) (a, y) in
        subst P (sym e.0) (subst Q (sym e.1) (Contains-push list (a, b))))
  ];
}

before_at : (p q i j a b : ℕ) → ComesBefore p q a b → i ≡ a → j ≡ b → ComesBefore p q i j
before_at p q i j a b (inl h) e f = inl (omega arith)
before_at p q i j a b (inr h) e f = inr ((let g = h.0 in omega arith), (let g = h.1 in omega arith))

-- the step over a, b where it doesn't cross, where there is no room, and where it is added
pub passed_over : (S : List Point) (K : List Pair) (a b most : ℕ) (list : List (ℕ × ℕ)) → ¬ DoCrossAt S K a b
    → AreFirstPairs (CrossesBefore S K a b) most list → AreFirstPairs (CrossesBefore S K a (b + 1)) most list
passed_over S K a b most list none = firsts_same (CrossesBefore S K a b) (CrossesBefore S K a (b + 1)) most list
    (λ i j r. (still_before i j a b r.0, r.1))
    (λ i j q. elim (next_before i j a b q.0) [
      | inl l ↦ (l, q.1)
      | inr e ↦ absurd (none (let P : ℕ → Type 0 = λ x. DoCrossAt S K x b in let Q : ℕ → Type 0 = λ y. DoCrossAt S K i y in subst P e.0 (subst Q e.1 q.1.1)))
    ])

pub full_over : (S : List Point) (K : List Pair) (a b most : ℕ) (list : List (ℕ × ℕ)) → most ≤ length list
    → AreFirstPairs (CrossesBefore S K a b) most list → AreFirstPairs (CrossesBefore S K a (b + 1)) most list
full_over S K a b most list full h = firsts_full (CrossesBefore S K a b) (CrossesBefore S K a (b + 1)) most list full
    (λ i j r. (still_before i j a b r.0, r.1))
    (λ i j q. elim (next_before i j a b q.0) [
      | inl l ↦ inl (l, q.1)
      | inr e ↦ inr (λ k d l. before_at _ _ i j a b (h.each k d l).0 e.0 e.1)
    ]) h

pub pushed : (S : List Point) (K : List Pair) (a b most : ℕ) (list : List (ℕ × ℕ)) → a < b → length list < most → DoCrossAt S K a b
    → AreFirstPairs (CrossesBefore S K a b) most list → AreFirstPairs (CrossesBefore S K a (b + 1)) most (list ++ (a, b) ∷ [])
pushed S K a b most list order room cross = firsts_push (CrossesBefore S K a b) (CrossesBefore S K a (b + 1)) most list a b room
    (inr (refl, omega arith), (order, cross))
    (λ i j r. (still_before i j a b r.0, r.1))
    (λ i j q. elim (next_before i j a b q.0) [ inl l ↦ inl (l, q.1) | inr e ↦ inr e ])
    (λ i j r. r.0)

-- the first position that can cross a is a + 1
pub from_next : (S : List Point) (K : List Pair) (a most : ℕ) (list : List (ℕ × ℕ))
    → AreFirstPairs (CrossesBefore S K a 0) most list → AreFirstPairs (CrossesBefore S K a (a + 1)) most list
from_next S K a most list = firsts_same (CrossesBefore S K a 0) (CrossesBefore S K a (a + 1)) most list
    (λ i j r. (elim r.0 [ inl h ↦ inl h | inr h ↦ absurd (let g = h.1 in omega arith) ], r.1))
    (λ i j q. (elim q.0 [ inl h ↦ inl h | inr h ↦ absurd (let e = h.0 in let g = h.1 in let o = q.1.0 in omega arith) ], q.1))

-- all positions after a were tried
pub all_tried : (S : List Point) (K : List Pair) (a n most : ℕ) (list : List (ℕ × ℕ)) → length K ≤ n
    → AreFirstPairs (CrossesBefore S K a n) most list → AreFirstPairs (CrossesBefore S K (a + 1) 0) most list
all_tried S K a n most list all = firsts_same (CrossesBefore S K a n) (CrossesBefore S K (a + 1) 0) most list
    (λ i j r. (elim r.0 [ inl h ↦ inl (omega arith) | inr h ↦ inl (let e = h.0 in omega arith) ], r.1))
    (λ i j q. (
      elim q.0 [
        | inl h ↦ elim (below_or_last i a h) [ inl l ↦ inl l | inr e ↦ inr (e, (let w = q.1.1.3.0 in omega arith)) ]
        | inr h ↦ absurd (let g = h.1 in omega arith)
      ],
      q.1,
    ))

-- no later position crosses a
pub none_later : (S : List Point) (K : List Pair) (a most : ℕ) (list : List (ℕ × ℕ)) → ((b : ℕ) → ¬ CrossesLater S K a b)
    → AreFirstPairs (CrossesBefore S K a 0) most list → AreFirstPairs (CrossesBefore S K (a + 1) 0) most list
none_later S K a most list none = firsts_same (CrossesBefore S K a 0) (CrossesBefore S K (a + 1) 0) most list
    (λ i j r. (elim r.0 [ inl h ↦ inl (omega arith) | inr h ↦ absurd (let g = h.1 in omega arith) ], r.1))
    (λ i j q. (
      elim q.0 [
        | inl h ↦ elim (below_or_last i a h) [ inl l ↦ inl l | inr e ↦ absurd (none j (let P : ℕ → Type 0 = λ x. CrossesLater S K x j in subst P e q.1)) ]
        | inr h ↦ absurd (let g = h.1 in omega arith)
      ],
      q.1,
    ))

-- there is no room for those that cross a
pub full_later : (S : List Point) (K : List Pair) (a most : ℕ) (list : List (ℕ × ℕ)) → most ≤ length list
    → AreFirstPairs (CrossesBefore S K a 0) most list → AreFirstPairs (CrossesBefore S K (a + 1) 0) most list
full_later S K a most list full h = firsts_full (CrossesBefore S K a 0) (CrossesBefore S K (a + 1) 0) most list full
    (λ i j r. (elim r.0 [ inl h ↦ inl (omega arith) | inr h ↦ absurd (let g = h.1 in omega arith) ], r.1))
    (λ i j q. elim q.0 [
      | inl l ↦ elim (below_or_last i a l) [
        | inl m ↦ inl (inl m, q.1)
        | inr e ↦ inr (λ k d m. elim (h.each k d m).0 [ inl b ↦ inl (omega arith) | inr b ↦ absurd (let g = b.1 in omega arith) ])
      ]
      | inr l ↦ absurd (let g = l.1 in omega arith)
    ]) h

pub begun : (S : List Point) (K : List Pair) (most : ℕ) → AreFirstPairs (CrossesBefore S K 0 0) most []
begun S K most = firsts_none (CrossesBefore S K 0 0) most (λ i j r. elim r.0 [ inl h ↦ omega arith | inr h ↦ (let g = h.1 in omega arith) ])

pub all_found : (S : List Point) (K : List Pair) (n most : ℕ) (list : List (ℕ × ℕ)) → length K ≤ n
    → AreFirstPairs (CrossesBefore S K n 0) most list → AreFirstPairs (CrossesLater S K) most list
all_found S K n most list all = firsts_same (CrossesBefore S K n 0) (CrossesLater S K) most list (λ i j r. r.1) (λ i j q. (inl (let w = q.1.2.0 in omega arith), q))
