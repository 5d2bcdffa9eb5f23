-- The two ways to say that the Keeps cost no more than the Drops are one.
use Rattle.std.proofs.Common.{◌≡◌, ℕ, ◌+◌, List, [], ◌∷◌, sym, ◌∙◌, ap₂, refl, arith}
use Rattle.std.specs.List.{sum_by}
use Rattle.std.proofs.lemmas.List.Sums.{sum_by-cons}
use Rattle.cost_defs.specs.Costs.{Costed}
use Rattle.journal_defs.specs.declared.edit.Edit.{Edit}
use Rattle.journal_defs.specs.declared.edit.Edit.TheVariants.{Drop, Keep, Flip}
use Rattle.plan_defs.specs.Plans as plans
use Rattle.solve_defs.specs.Solved.{kept_cost, saved_cost, IsNoDearer}

same_kept : (D : List Costed) (e : Edit) → plans.kept_cost D e ≡ kept_cost D e
same_kept D (Drop e) = refl
same_kept D (Keep e) = refl
same_kept D (Flip e f) = refl

same_saved : (D : List Costed) (e : Edit) → plans.dropped_cost D e ≡ saved_cost D e
same_saved D (Drop e) = refl
same_saved D (Keep e) = refl
same_saved D (Flip e f) = refl

same_sums : (f g : Edit → ℕ) → ((e : Edit) → f e ≡ g e) → (es : List Edit) → sum_by f es ≡ sum_by g es
same_sums f g same [] = refl
same_sums f g same (e ∷ es) = sum_by-cons f e es ∙ ap₂ (λ (a b : ℕ). a + b) (same e) (same_sums f g same es) ∙ sym (sum_by-cons g e es)

pub no_dearer_too : (D : List Costed) (es : List Edit) → plans.IsNoDearer D es → IsNoDearer D es
no_dearer_too D es low =
    let a : sum_by (plans.kept_cost D) es ≡ sum_by (kept_cost D) es = same_sums (plans.kept_cost D) (kept_cost D) (same_kept D) es in
    let b : sum_by (plans.dropped_cost D) es ≡ sum_by (saved_cost D) es = same_sums (plans.dropped_cost D) (saved_cost D) (same_saved D) es in
    omega (arith, a, b, low)
