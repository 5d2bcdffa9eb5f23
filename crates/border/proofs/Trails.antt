-- Walks along the border: they rise, and meet each point from which a step leads on.
use Rattle.std.proofs.Common.{◌≡◌, ℕ, zero, suc, ◌+◌, ◌-◌, ◌<◌, Bool, List, [], ◌∷◌, ◌++◌, length, ◌⊎◌, inl, inr, arith, sym, ◌∙◌, subst, refl}
use Rattle.std.proofs.lemmas.List.{get_or_push, length_push}
use Rattle.plane.specs.declared.coordinates.Point.{Point}
use Rattle.plane.specs.declared.coordinates.Turn.TheVariants.{Left}
use Rattle.plane.specs.Hull.{IsBorderStep}
use Rattle.plane.specs.Accepted.{AreAccepted}
use Rattle.plane_laws.specs.Order.{IsBefore}
use Rattle.plane_laws.proofs.Between.{by_order}
use Rattle.border.specs.Cycle.{at}
use Rattle.border.specs.Walk.{seen, AreFirstAndLast, IsTrail}
use Rattle.border.proofs.Lower.{not_self, no_overlap}
use Rattle.border.proofs.Turned.{lower_of, same_place}
use Rattle.plane_laws.proofs.Order.{before_trans}
use Rattle.plane_laws.proofs.Order.{before_asym}
use Rattle.number_laws.proofs.Naturals.{equal_or_not}

-- later points come later
pub trail_rises : (S : List Point) (b : Bool) (from : ℕ) (D : List ℕ) → IsTrail S b from D → (m i : ℕ) → i + 1 + m < length D → IsBefore (seen S b (at D i)) (seen S b (at D (i + 1 + m)))
trail_rises S b from D so zero i h = let e : i + 1 + 0 ≡ i + 1 = omega arith in subst (λ j. IsBefore (seen S b (at D i)) (seen S b (at D j))) (sym e) (so.rises i (omega arith))
trail_rises S b from D so (suc m) i h =
    let e : i + 1 + suc m ≡ i + 1 + m + 1 = omega arith in
    subst (λ j. IsBefore (seen S b (at D i)) (seen S b (at D j))) (sym e) (before_trans (seen S b (at D i)) (seen S b (at D (i + 1 + m))) (seen S b (at D (i + 1 + m + 1))) (trail_rises S b from D so m i (omega arith)) (so.rises (i + 1 + m) (omega arith)))

pub trail_order : (S : List Point) (b : Bool) (from : ℕ) (D : List ℕ) → IsTrail S b from D → (i j : ℕ) → i < j → j < length D → IsBefore (seen S b (at D i)) (seen S b (at D j))
trail_order S b from D so i j ij h = let e : i + 1 + (j - i - 1) ≡ j = omega arith in subst (λ k. IsBefore (seen S b (at D i)) (seen S b (at D k))) e (trail_rises S b from D so (j - i - 1) i (omega arith))

pub trail_inside : (S : List Point) (b : Bool) (from : ℕ) (D : List ℕ) → IsTrail S b from D → from < length S → (j : ℕ) → j < length D → at D j < length S
trail_inside S b from D so h zero l = subst (λ x. x < length S) (sym so.begins) h
trail_inside S b from D so h (suc j) l = let e : j + 1 ≡ suc j = omega arith in subst (λ i. at D i < length S) e ((so.steps j (omega arith)).within)

-- a walk between the ends meets each point from which a step leads on
pub trail_meets : (S : List Point) (b : Bool) (from to a c : ℕ) (C : List ℕ) → AreAccepted S → AreFirstAndLast S b from to → IsTrail S b from (C ++ to ∷ []) → a < length S → IsBorderStep S Left a c → IsBefore (seen S b a) (seen S b c) → (i : ℕ) × (i < length C) × (at (C ++ to ∷ []) i ≡ a)
trail_meets S b from to a c C accepted ends so ha step leads = look (length C) 0 (omega (arith, length_push C to)) (elim (equal_or_not from a) [ inl e ↦ inl (so.begins ∙ e) | inr ne ↦ inr (subst (λ x. IsBefore (seen S b x) (seen S b a)) (sym so.begins) (ends.first a ha (λ e. ne (sym e)))) ])
  where
    D : List ℕ
    D = C ++ to ∷ []

    -- nothing comes after the end
    not_after : (x : ℕ) → x < length S → ¬ IsBefore (seen S b to) (seen S b x)
    not_after x h k = elim (equal_or_not x to) [
      | inl e ↦ not_self (seen S b to) (seen S b to) refl refl (subst (λ y. IsBefore (seen S b to) (seen S b y)) e k)
      | inr ne ↦ before_asym (seen S b to) (seen S b x) k (ends.last x h ne)
    ]

    look : (m j : ℕ) → j + m ≡ length C → (at (C ++ to ∷ []) j ≡ a) ⊎ IsBefore (seen S b (at (C ++ to ∷ []) j)) (seen S b a) → (i : ℕ) × (i < length C) × (at (C ++ to ∷ []) i ≡ a)
    look zero j e (inl h) =
        let last : at (C ++ to ∷ []) j ≡ to = get_or_push C to 0 j (omega arith) in
        absurd (not_after c step.within (subst (λ x. IsBefore (seen S b x) (seen S b c)) (sym h ∙ last) leads))
    look zero j e (inr h) =
        let last : at (C ++ to ∷ []) j ≡ to = get_or_push C to 0 j (omega arith) in
        absurd (not_after a ha (subst (λ x. IsBefore (seen S b x) (seen S b a)) last h))
    look (suc m) j e (inl h) = (j, omega arith, h)
    look (suc m) j e (inr h) =
        let v = at (C ++ to ∷ []) j in let w = at (C ++ to ∷ []) (j + 1) in
        let len = length_push C to in
        let inside = trail_inside S b from (C ++ to ∷ []) so ends.from_in in
        by_order (seen S b a) (seen S b w)
        (λ aw. absurd (no_overlap (seen S b) (length S) v w a c (lower_of S b v w (so.steps j (omega arith)) (so.rises j (omega arith))) (lower_of S b a c step leads) (inside j (omega arith)) ha h aw))
        (λ ex ey. look m (j + 1) (omega arith) (inl (sym (same_place S b a w accepted ha (inside (j + 1) (omega arith)) ex ey))))
        (λ wa. look m (j + 1) (omega arith) (inr wa))
