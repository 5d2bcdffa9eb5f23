-- A chain over all points is one half of the border.
use Rattle.std.proofs.Common.{◌≡◌, ◌≢◌, ℕ, ◌+◌, ◌-◌, ◌<◌, Bool, List, [], ◌∷◌, ◌++◌, length, pos, ◌≤ℤ◌, inl, inr, arith, sym, ◌∙◌, ap, subst, subst₂, refl}
use Rattle.std.proofs.lemmas.Int.{ints}
use Rattle.std.proofs.lemmas.Bool.{cases_lt}
use Rattle.std.proofs.lemmas.List.{get_or_append_left, get_or_push, length_push, append_assoc, append-nil}
use Rattle.plane.specs.declared.coordinates.Point.{Point}
use Rattle.plane.specs.declared.coordinates.Turn.TheVariants.{Left}
use Rattle.plane.specs.Geometry.{point, area}
use Rattle.plane.specs.Hull.{IsBorderStep}
use Rattle.plane_laws.specs.Order.{IsBefore}
use Rattle.border.specs.Cycle.{at}
use Rattle.border.specs.Walk.{seen, HasWalked}
use Rattle.border.specs.Chain.{seen_at, IsInOrder, IsLower, IsChain, TurnsRight, HasPoints}
use Rattle.border.proofs.Turned.{area_turned, step_of}
use Rattle.border.proofs.Growing.{Rising, Turn}

-- the points up to a place are in order
pub rising_of : (S : List Point) (b : Bool) (O : List ℕ) (n : ℕ) → IsInOrder S b O → n < length O → Rising (seen_at S b O) (n + 1)
rising_of S b O n order h = λ i j ij hj. order.rising i j ij (omega arith)

-- a turn is the same of the points as they are seen
pub turn_seen : (S : List Point) (b : Bool) (O C : List ℕ) (k : ℕ) → TurnsRight S O C k → Turn (seen_at S b O) k C
turn_seen S b O C k (several, right) =
    (several, (let e = area_turned b (point S (at O (at C (length C - 2)))) (point S (at O (at C (length C - 1)))) (point S (at O k)) in omega (arith, ints, e)))

pub turn_unseen : (S : List Point) (b : Bool) (O C : List ℕ) (k : ℕ) → Turn (seen_at S b O) k C → TurnsRight S O C k
turn_unseen S b O C k (several, right) =
    (several, (let e = area_turned b (point S (at O (at C (length C - 2)))) (point S (at O (at C (length C - 1)))) (point S (at O k)) in omega (arith, ints, e)))

-- a step over places is one over points
lower_of_places : (S : List Point) (b : Bool) (O : List ℕ) (v w : ℕ) → IsInOrder S b O → IsLower (seen_at S b O) (length O) v w → IsLower (seen S b) (length S) (at O v) (at O w)
lower_of_places S b O v w order low = record {
  within = order.within w low.within;
  leads = low.leads;
  left = λ k h. (let (i, hi, e) = order.whole k h in subst (λ x. pos 0 ≤ℤ area (seen_at S b O v) (seen_at S b O w) (seen S b x)) e (low.left i hi));
  clear = λ k h. (let (i, hi, e) = order.whole k h in
      subst (λ x. IsBefore (seen_at S b O v) (seen S b x) → IsBefore (seen S b x) (seen_at S b O w) → area (seen_at S b O v) (seen_at S b O w) (seen S b x) ≢ pos 0) e (low.clear i hi));
}

pub walked : (S : List Point) (b : Bool) (O C old new : List ℕ) → IsInOrder S b O → 1 < length O → IsChain (seen_at S b O) (length O) C → HasPoints O C (length C - 1) old new
    → HasWalked S b (at O 0) (at O (length O - 1)) old new
walked S b O C old new order several chain (D, is, count, each) =
    let some = chain.part.some in
    let to = at O (length O - 1) in
    let F = D ++ to ∷ [] in
    let len : length F ≡ length D + 1 = length_push D to in
    let more : 0 < length D = elim (cases_lt 1 (length C)) [
      | inl h ↦ omega arith
      | inr h ↦ (let e : length C - 1 ≡ 0 = omega arith in let z : at C (length C - 1) ≡ 0 = ap (at C) e ∙ chain.part.first in absurd (omega (arith, chain.last)))
    ] in
    let full : (j : ℕ) → j < length C → at F j ≡ at O (at C j) = λ j h. elim (cases_lt j (length D)) [
      | inl l ↦ get_or_append_left D (to ∷ []) 0 j l ∙ each j (omega arith)
      | inr g ↦ (let e : length C - 1 ≡ j = omega arith in let f : length O - 1 ≡ at C (length C - 1) = omega (arith, chain.last) in
          get_or_push D to 0 j (omega arith) ∙ ap (at O) (f ∙ ap (at C) e))
    ] in
    let step : (j : ℕ) → j + 1 < length C → IsLower (seen S b) (length S) (at O (at C j)) (at O (at C (j + 1))) = λ j h. lower_of_places S b O (at C j) (at C (j + 1)) order (chain.part.steps j h) in (
      D,
      more,
      is,
      record {
        begins = full 0 some ∙ ap (at O) chain.part.first;
        steps = λ j h. subst₂ (λ x y. IsBorderStep S Left x y) (sym (full j (omega arith))) (sym (full (j + 1) (omega arith))) (step_of S b (at O (at C j)) (at O (at C (j + 1))) (step j (omega arith)));
        rises = λ j h. subst₂ (λ x y. IsBefore (seen S b x) (seen S b y)) (sym (full j (omega arith))) (sym (full (j + 1) (omega arith))) ((step j (omega arith)).leads);
      },
    )

-- one point more of a chain
pub points_begin : (O C old : List ℕ) → HasPoints O C 0 old old
points_begin O C old = ([], sym (append-nil old), refl, λ i h. absurd (omega arith))

pub points_more : (O C old now new : List ℕ) (n v : ℕ) → HasPoints O C n old now → new ≡ now ++ v ∷ [] → v ≡ at O (at C n) → HasPoints O C (n + 1) old new
points_more O C old now new n v (D, is, count, each) more here = (
  D ++ v ∷ [],
  more ∙ ap (λ xs. xs ++ v ∷ []) is ∙ append_assoc old D (v ∷ []),
  omega (arith, length_push D v),
  λ i h. elim (cases_lt i n) [
    | inl l ↦ get_or_append_left D (v ∷ []) 0 i (omega arith) ∙ each i l
    | inr g ↦ (let e : n ≡ i = omega arith in get_or_push D v 0 i (omega arith) ∙ here ∙ ap (λ k. at O (at C k)) e)
  ],
)
