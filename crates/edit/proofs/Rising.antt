-- A step of a walk along ascending claims.
use Rattle.std.proofs.Common.{◌≡◌, ℕ, ◌+◌, ◌-◌, ◌<◌, ◌≤◌, List, length, get_or, arith, ◌∙◌, subst}
use Rattle.std.proofs.lemmas.List.{get_or_default}
use Rattle.std.proofs.lemmas.List.Sorted.{all_adjacent_more}
use Rattle.journal_defs.specs.declared.edit.Claim.{Claim}
use Rattle.edit.specs.Plans.{RisesBelow, IsFirstFall}

-- an item of a list at any default
same_at : (claims : List Claim) (k : ℕ) (a d : Claim) → a ≡ get_or claims k a → k < length claims → a ≡ get_or claims k d
same_at claims k a d at hk = at ∙ get_or_default claims k a d hk

pub rises_none : (claims : List Claim) (n : ℕ) → n ≤ 1 → RisesBelow claims n
rises_none claims n h k d hk = absurd (omega arith)

pub rises_more : (claims : List Claim) (k : ℕ) (a b : Claim) → 0 < k → k < length claims → a ≡ get_or claims k a → b ≡ get_or claims (k - 1) b → b.vertex < a.vertex → RisesBelow claims k → RisesBelow claims (k + 1)
rises_more claims k a b hk in_ at before up rises =
    all_adjacent_more claims (λ (x y : Claim). x.vertex < y.vertex) k hk rises
    (λ d. (let e = same_at claims k a d at in_ in let f = same_at claims (k - 1) b d before (omega arith) in
    subst (λ (x : Claim). x.vertex < (get_or claims k d).vertex) f (subst (λ (y : Claim). b.vertex < y.vertex) e up)))

pub falls_here : (claims : List Claim) (k : ℕ) (a b : Claim) → 0 < k → k < length claims → a ≡ get_or claims k a → b ≡ get_or claims (k - 1) b → a.vertex ≤ b.vertex → RisesBelow claims k → IsFirstFall claims k
falls_here claims k a b hk in_ at before down rises = record {
  some = hk;
  within = in_;
  falls = λ d. (let e = same_at claims k a d at in_ in let f = same_at claims (k - 1) b d before (omega arith) in
      subst (λ (x : Claim). (get_or claims k d).vertex ≤ x.vertex) f (subst (λ (y : Claim). y.vertex ≤ b.vertex) e down));
  least = rises;
}
