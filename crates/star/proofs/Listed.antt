-- What a star's list keeps: names and their order, through a mark, an insert and a remove.
use Rattle.std.proofs.Common.{◌≡◌, ◌≢◌, ℕ, ◌+◌, ◌-◌, ◌<◌, ◌≤◌, Bool, true, false, List, length, get_or, set, insert, remove, map, ◌⊎◌, inl, inr, arith, sym, ◌∙◌, ap, subst, refl, eqb, Any, get_or-set_other, get_or-set_same, length-set}
use Rattle.std.specs.List.{list_any, AllPairs}
use Rattle.std.proofs.lemmas.List.{length-map, get_or-map}
use Rattle.std.proofs.lemmas.List.Edits.{length-insert, get_or-insert_below, get_or-insert_at, get_or-insert_above, length-remove, get_or-remove_below, get_or-remove_above}
use Rattle.std.proofs.lemmas.List.Folds.{Any-from_list_any}
use Rattle.std.proofs.lemmas.Map.Made.{IsDistinct-from_AllPairs}
use Rattle.std.proofs.lemmas.Map.Steps.{length-le_from_distinct_below}
use Rattle.std.proofs.lemmas.Bool.Decides.{Decides-eqb}
use Rattle.std.proofs.lemmas.Bool.{cases_lt}
use Rattle.plane.specs.declared.coordinates.Point.{Point}
use Rattle.plane.specs.Geometry.{point}
use Rattle.plane.specs.Accepted.{AreAccepted}
use Rattle.star.specs.Turn.{IsBeforeInTurn}
use Rattle.star.specs.Stars.{entry, around, AreInTurn, IsOrderly}
use Rattle.number_laws.proofs.Naturals.{equal_or_not}
use Rattle.star.proofs.laws.Turning.{never_before_itself}

-- the steps round a cyclic list come to each position
pub all_round : (n k j : ℕ) → k < n → j < n → (e : ℕ) × (e < n) × (around n (k + e + 1) ≡ j)
all_round n k j hk hj = elim (cases_lt k j) [
  | inl h ↦ (j - k - 1, omega arith, (let e : k + (j - k - 1) + 1 ≡ j = omega arith in grind arith))
  | inr h ↦ (n + j - k - 1, omega arith, (let e : k + (n + j - k - 1) + 1 ≡ n + j = omega arith in grind arith))
]

-- the names stay through a mark
pub marked_names : (list : List (ℕ × Bool)) (k q : ℕ) (b : Bool) → k < length list → (entry list k).0 ≡ q → (j : ℕ) → (entry (set list k (q, b)) j).0 ≡ (entry list j).0
marked_names list k q b hk here j = elim (equal_or_not j k) [
  | inl e ↦ ap (λ i. (get_or (set list k (q, b)) i (0, false)).0) e ∙ ap (λ (p : ℕ × Bool). p.0) (get_or-set_same list k (q, b) (0, false) hk) ∙ sym here ∙ ap (λ i. (entry list i).0) (sym e)
  | inr ne ↦ ap (λ (p : ℕ × Bool). p.0) (get_or-set_other list k j (q, b) (0, false) ne)
]

-- a list of the same names is in order too
pub orderly_named : (S : List Point) (c : ℕ) (list new : List (ℕ × Bool)) → IsOrderly S c list → length new ≡ length list → ((j : ℕ) → (entry new j).0 ≡ (entry list j).0) → IsOrderly S c new
orderly_named S c list new so len names = record {
  centre = so.centre;
  within = λ k h. subst (λ x. x < length S) (sym (names k)) (so.within k (omega arith));
  apart = λ k h e. so.apart k (omega arith) (sym (names k) ∙ e);
  order = λ i j ij h. subst (λ x. IsBeforeInTurn S c x (entry new j).0) (sym (names i)) (subst (λ x. IsBeforeInTurn S c (entry list i).0 x) (sym (names j)) (so.order i j ij (omega arith)));
  few = omega (arith, so.few);
}

pub orderly_marked : (S : List Point) (c : ℕ) (list : List (ℕ × Bool)) (k q : ℕ) (b : Bool) → IsOrderly S c list → k < length list → (entry list k).0 ≡ q → IsOrderly S c (set list k (q, b))
orderly_marked S c list k q b so hk here = orderly_named S c list (set list k (q, b)) so (length-set list k (q, b)) (marked_names list k q b hk here)

-- names in order are as many as there are points at most
few_of : (S : List Point) (c : ℕ) (list : List (ℕ × Bool)) → ((k : ℕ) → k < length list → (entry list k).0 < length S) → AreInTurn S c list → length list ≤ length S
few_of S c list within order =
    let names = map (λ (p : ℕ × Bool). p.0) list in
    let len : length names ≡ length list = length-map list (λ (p : ℕ × Bool). p.0) in
    let named : (i d : ℕ) → i < length list → get_or names i d ≡ (entry list i).0 = λ i d h. get_or-map (λ (p : ℕ × Bool). p.0) list i (0, false) d h in
    let apart : AllPairs (λ x y. x ≢ y) names = λ i j d ij h e.
    (let a = named i d (omega arith) in let b = named j d (omega arith) in
    let f : (entry list i).0 ≡ (entry list j).0 = sym a ∙ e ∙ b in
    never_before_itself (point S c) (point S (entry list j).0) (subst (λ x. IsBeforeInTurn S c x (entry list j).0) f (order i j ij (omega arith)))) in
    let below : (q : ℕ) → list_any (eqb q) names ≡ true → q < length S = λ q t. low q (Any-from_list_any (eqb q) names t) named len in
    omega (arith, len, length-le_from_distinct_below names (length S) (IsDistinct-from_AllPairs Decides-eqb names apart) below)
  where
    low : (q : ℕ) → Any (λ x. eqb q x ≡ true) (map (λ (p : ℕ × Bool). p.0) list) → ((i d : ℕ) → i < length list → get_or (map (λ (p : ℕ × Bool). p.0) list) i d ≡ (entry list i).0) → length (map (λ (p : ℕ × Bool). p.0) list) ≡ length list → q < length S
    low q (k, x, hk, at, t) named len =
        let e : q ≡ (entry list k).0 = (Decides-eqb q x).0 t ∙ sym at ∙ named k x (omega arith) in
        subst (λ y. y < length S) (sym e) (within k (omega arith))

-- the place of a position after an insert at k
pub data Place (k j : ℕ) : Type 0 where
  below : j < k → Place k j
  here : j ≡ k → Place k j
  above : (i : ℕ) → k ≤ i → j ≡ i + 1 → Place k j

pub place_of : (k j : ℕ) → Place k j
place_of k j = elim (cases_lt j k) [ inl h ↦ below h | inr h ↦ elim (cases_lt k j) [ inl g ↦ above (j - 1) (omega arith) (omega arith) | inr g ↦ here (omega arith) ] ]

pub orderly_inserted : (S : List Point) (c : ℕ) (list : List (ℕ × Bool)) (k q : ℕ) → AreAccepted S → IsOrderly S c list → q < length S → q ≢ c → k ≤ length list
    → ((j : ℕ) → j < k → IsBeforeInTurn S c (entry list j).0 q) → ((j : ℕ) → k ≤ j → j < length list → IsBeforeInTurn S c q (entry list j).0) → IsOrderly S c (insert list k (q, false))
orderly_inserted S c list k q accepted so hq apart hk before after =
    let new = insert list k (q, false) in
    let len : length new ≡ length list + 1 = length-insert list k (q, false) hk in
    let low : (j : ℕ) → j < k → (entry new j).0 ≡ (entry list j).0 = λ j h. ap (λ (p : ℕ × Bool). p.0) (get_or-insert_below list k (q, false) (0, false) j h hk) in
    let at : (j : ℕ) → j ≡ k → (entry new j).0 ≡ q = λ j h. ap (λ i. (entry new i).0) h ∙ ap (λ (p : ℕ × Bool). p.0) (get_or-insert_at list k (q, false) (0, false) hk) in
    let high : (j i : ℕ) → k ≤ i → j ≡ i + 1 → (entry new j).0 ≡ (entry list i).0 = λ j i h e. ap (λ m. (entry new m).0) e ∙ ap (λ (p : ℕ × Bool). p.0) (get_or-insert_above list k (q, false) (0, false) i h hk) in
    let in_order : AreInTurn S c new = λ i j ij h. elim (place_of k i) [
      | below a ↦ elim (place_of k j) [
        | below b ↦ subst (λ x. IsBeforeInTurn S c x (entry new j).0) (sym (low i a)) (subst (λ x. IsBeforeInTurn S c (entry list i).0 x) (sym (low j b)) (so.order i j ij (omega arith)))
        | here b ↦ subst (λ x. IsBeforeInTurn S c x (entry new j).0) (sym (low i a)) (subst (λ x. IsBeforeInTurn S c (entry list i).0 x) (sym (at j b)) (before i a))
        | above m b e ↦ subst (λ x. IsBeforeInTurn S c x (entry new j).0) (sym (low i a)) (subst (λ x. IsBeforeInTurn S c (entry list i).0 x) (sym (high j m b e)) (so.order i m (omega arith) (omega arith)))
      ]
      | here a ↦ elim (place_of k j) [
        | below b ↦ absurd (omega arith)
        | here b ↦ absurd (omega arith)
        | above m b e ↦ subst (λ x. IsBeforeInTurn S c x (entry new j).0) (sym (at i a)) (subst (λ x. IsBeforeInTurn S c q x) (sym (high j m b e)) (after m b (omega arith)))
      ]
      | above l a f ↦ elim (place_of k j) [
        | below b ↦ absurd (omega arith)
        | here b ↦ absurd (omega arith)
        | above m b e ↦ subst (λ x. IsBeforeInTurn S c x (entry new j).0) (sym (high i l a f)) (subst (λ x. IsBeforeInTurn S c (entry list l).0 x) (sym (high j m b e)) (so.order l m (omega arith) (omega arith)))
      ]
    ] in
    let inside : (j : ℕ) → j < length new → (entry new j).0 < length S = λ j h. elim (place_of k j) [
      | below b ↦ subst (λ x. x < length S) (sym (low j b)) (so.within j (omega arith))
      | here b ↦ subst (λ x. x < length S) (sym (at j b)) hq
      | above m b e ↦ subst (λ x. x < length S) (sym (high j m b e)) (so.within m (omega arith))
    ] in
    record {
      centre = so.centre;
      within = inside;
      apart = λ j h. elim (place_of k j) [
        | below b ↦ subst (λ x. x ≢ c) (sym (low j b)) (so.apart j (omega arith))
        | here b ↦ subst (λ x. x ≢ c) (sym (at j b)) apart
        | above m b e ↦ subst (λ x. x ≢ c) (sym (high j m b e)) (so.apart m (omega arith))
      ];
      order = in_order;
      few = omega (arith, few_of S c new inside in_order, accepted.count.1);
    }

-- the position in the old list of a position after a remove at k
old_place : (k j : ℕ) → (i : ℕ) × (((j < k) × (i ≡ j)) ⊎ ((k ≤ j) × (i ≡ j + 1)))
old_place k j = elim (cases_lt j k) [ inl h ↦ (j, inl (h, refl)) | inr h ↦ (j + 1, inr (h, refl)) ]

pub orderly_removed : (S : List Point) (c : ℕ) (list : List (ℕ × Bool)) (k : ℕ) → IsOrderly S c list → k < length list → IsOrderly S c (remove list k)
orderly_removed S c list k so hk =
    let new = remove list k in
    let len : length new + 1 ≡ length list = omega (arith, length-remove list k hk) in
    let old : (j i : ℕ) → ((j < k) × (i ≡ j)) ⊎ ((k ≤ j) × (i ≡ j + 1)) → (entry new j).0 ≡ (entry list i).0 = λ j i w. elim w [
      | inl (h, e) ↦ ap (λ (p : ℕ × Bool). p.0) (get_or-remove_below list k (0, false) j h hk) ∙ ap (λ m. (entry list m).0) (sym e)
      | inr (h, e) ↦ ap (λ (p : ℕ × Bool). p.0) (get_or-remove_above list k (0, false) j h hk) ∙ ap (λ m. (entry list m).0) (sym e)
    ] in
    record {
      centre = so.centre;
      within = λ j h. (let (i, w) = old_place k j in subst (λ x. x < length S) (sym (old j i w)) (so.within i (inside i j w len h)));
      apart = λ j h. (let (i, w) = old_place k j in subst (λ x. x ≢ c) (sym (old j i w)) (so.apart i (inside i j w len h)));
      order = λ a b ab h. (let (i, w) = old_place k a in let (j, v) = old_place k b in
          subst (λ x. IsBeforeInTurn S c x (entry new b).0) (sym (old a i w)) (subst (λ x. IsBeforeInTurn S c (entry list i).0 x) (sym (old b j v)) (so.order i j (rising i j a b w v ab) (inside j b v len h))));
      few = omega (arith, so.few);
    }
  where
    inside : (i j : ℕ) → ((j < k) × (i ≡ j)) ⊎ ((k ≤ j) × (i ≡ j + 1)) → length (remove list k) + 1 ≡ length list → j < length (remove list k) → i < length list
    inside i j (inl w) len h = omega arith
    inside i j (inr w) len h = omega arith

    rising : (i j a b : ℕ) → ((a < k) × (i ≡ a)) ⊎ ((k ≤ a) × (i ≡ a + 1)) → ((b < k) × (j ≡ b)) ⊎ ((k ≤ b) × (j ≡ b + 1)) → a < b → i < j
    rising i j a b (inl w) (inl v) ab = omega arith
    rising i j a b (inl w) (inr v) ab = omega arith
    rising i j a b (inr w) (inl v) ab = absurd (omega arith)
    rising i j a b (inr w) (inr v) ab = omega arith
