-- The same edits with claims on the same vertices make a plan again.
use Rattle.std.proofs.Common.{◌≡◌, ℕ, zero, suc, ◌-◌, ◌<◌, Bool, nat_eq, ◌||◌, inl, inr, List, [], ◌∷◌, length, get_or, arith, sym, ◌∙◌, ap, subst, refl}
use Rattle.std.specs.List.{list_any}
use Rattle.std.proofs.lemmas.Bool.{false≢true}
use Rattle.journal_defs.specs.declared.edit.Edit.{Edit}
use Rattle.journal_defs.specs.declared.edit.Claim.{Claim}
use Rattle.edit.specs.declared.plan.BadPlan.{BadPlan}
use Rattle.edit.specs.declared.plan.BadPlan.TheVariants.{Empty, TooLong, NotAscending, NotCovered}
use Rattle.edit.specs.Plans.{IsPlan, IsFirstFall, is_claimed}
use Rattle.edit.specs.BadPlans.{IsBadPlan}
use Rattle.hands.specs.Answers.{claimed, AreRising}
use Rattle.hands.proofs.Laws.{each_at, claimed_at, claimed_length, rising_plan, no_claim}

rises_at : (xs : List ℕ) (j k d : ℕ) → AreRising xs → j < k → k < length xs → get_or xs j d < get_or xs k d
rises_at [] j k d r lt within = absurd (let z : k < 0 = within in omega (arith, z))
rises_at (x ∷ xs) j zero d r lt within = absurd (omega (arith, lt))
rises_at (x ∷ xs) zero (suc k) d r lt within = each_at (λ (y : ℕ). x < y) xs k d r.0 (let z : suc k < length (x ∷ xs) = within in omega (arith, z))
rises_at (x ∷ xs) (suc j) (suc k) d r lt within = rises_at xs j k d r.1 (omega (arith, lt)) (let z : suc k < length (x ∷ xs) = within in omega (arith, z))

claimed_by : (cs : List Claim) (v : ℕ) → is_claimed cs v ≡ list_any (λ (u : ℕ). nat_eq u v) (claimed cs)
claimed_by [] v = refl
claimed_by (c ∷ cs) v = ap (λ (b : Bool). nat_eq c.vertex v || b) (claimed_by cs v)

same_claimed : (cs ds : List Claim) (v : ℕ) → claimed ds ≡ claimed cs → is_claimed ds v ≡ is_claimed cs v
same_claimed cs ds v same = claimed_by ds v ∙ (ap (λ (l : List ℕ). list_any (λ (u : ℕ). nat_eq u v) l) same ∙ sym (claimed_by cs v))

same_length : (cs ds : List Claim) → claimed ds ≡ claimed cs → length ds ≡ length cs
same_length cs ds same = sym (claimed_length ds) ∙ (ap (λ (l : List ℕ). length l) same ∙ claimed_length cs)

falls_not : (edits : List Edit) (cs ds : List Claim) (k : ℕ) → IsPlan edits cs → claimed ds ≡ claimed cs → IsFirstFall ds k → ⊥
falls_not edits cs ds k plan same f =
    let n = claimed_length ds in
    let near = f.within in
    let some = f.some in
    let before : k - 1 < length ds = omega (arith, near, some) in
    let up = rises_at (claimed ds) (k - 1) k 0 (subst AreRising (sym same) (rising_plan edits cs plan)) (omega (arith, some)) (omega (arith, n, near)) in
    let a = claimed_at ds k no_claim 0 near in
    let b = claimed_at ds (k - 1) no_claim 0 before in
    let down = f.falls no_claim in
    omega (arith, up, a, b, down)

pub never_bad : (edits : List Edit) (cs ds : List Claim) (bad : BadPlan) → IsPlan edits cs → claimed ds ≡ claimed cs → IsBadPlan edits ds bad → ⊥
never_bad edits cs ds Empty plan same b = let a = plan.some in let e : length edits ≡ 0 = ap (λ (l : List Edit). length l) b in omega (arith, a, e)
never_bad edits cs ds TooLong plan same b =
    let few = plan.size.0 in
    let most = plan.size.1 in
    let long = same_length cs ds same in
    elim b.1 [ inl x ↦ omega (arith, few, x) | inr y ↦ omega (arith, most, long, y) ]
never_bad edits cs ds (NotAscending k) plan same b = falls_not edits cs ds k plan same b.2
never_bad edits cs ds (NotCovered v) plan same b = false≢true (sym b.3.1 ∙ (same_claimed cs ds v same ∙ plan.covered v b.3.0))
