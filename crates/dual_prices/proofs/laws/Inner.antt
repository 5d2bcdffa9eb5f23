-- Inner points, listed one after the other.
use Rattle.std.proofs.Common.{◌≡◌, ℕ, ◌+◌, ◌<◌, inl, inr, List, [], ◌∷◌, ◌++◌, get_or, subst, arith}
use Rattle.std.specs.List.{AllPairs, Contains}
use Rattle.std.proofs.lemmas.Bool.{cases_lt}
use Rattle.std.proofs.lemmas.List.Elements.{Contains-push, Contains-push_cases, Contains-append_left, Contains-get_or}
use Rattle.std.proofs.lemmas.List.Quantifiers.{all_pairs_push}
use Rattle.plane.specs.declared.coordinates.Point.{Point}
use Rattle.plane.specs.Geometry.{IsInner}
use Rattle.dual_prices.specs.Floors.{IsInnerListBelow}

-- One inner point more, or one that isn't inner.
pub inner_more : (S : List Point) (k : ℕ) (ps : List ℕ) → IsInner S k → IsInnerListBelow S k ps → IsInnerListBelow S (k + 1) (ps ++ k ∷ [])
inner_more S k ps inner list = record {
  ascending = all_pairs_push (λ p q. p < q) ps k list.ascending (λ i d l. ((list.exact (get_or ps i d)).0 (Contains-get_or ps i d l)).0);
  exact = λ p. (
    λ c. elim (Contains-push_cases ps k p c) [
      | inl m ↦ (let h : (p < k) × IsInner S p = (list.exact p).0 m in (let l : p < k = h.0 in omega arith, h.1))
      | inr e ↦ (omega arith, subst (IsInner S) e inner)
    ],
    λ h. elim (cases_lt p k) [
      | inl l ↦ Contains-append_left ps (k ∷ []) p ((list.exact p).1 (l, h.1))
      | inr g ↦ (let e : k ≡ p = (let b : p < k + 1 = h.0 in omega arith) in subst (Contains (ps ++ k ∷ [])) e (Contains-push ps k))
    ],
  );
}

pub inner_less : (S : List Point) (k : ℕ) (ps : List ℕ) → ¬ IsInner S k → IsInnerListBelow S k ps → IsInnerListBelow S (k + 1) ps
inner_less S k ps outer list = record {
  ascending = list.ascending;
  exact = λ p. (
    λ c. (let h : (p < k) × IsInner S p = (list.exact p).0 c in (let l : p < k = h.0 in omega arith, h.1)),
    λ h. elim (cases_lt p k) [
      | inl l ↦ (list.exact p).1 (l, h.1)
      | inr g ↦ (let e : p ≡ k = (let b : p < k + 1 = h.0 in omega arith) in absurd (outer (subst (IsInner S) e h.1)))
    ],
  );
}
