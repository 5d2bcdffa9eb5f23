-- Steps that were read are within the limits.
use Rattle.std.proofs.Common.{◌≡◌, ℕ, ◌≤◌, List, [], ◌∷◌, map, length, Option, Some, None, Ok, All, cond, codes, option_map, inl, inr, subst, arith}
use Rattle.std.proofs.lemmas.List.{length-map}
use Rattle.serde_json.specs.Data.{Data}
use Rattle.text_defs.specs.Items.{number_within, is_tag, array_list, each_or_fault}
use Rattle.text_defs.proofs.laws.IsPlain.{Each}
use Rattle.report_io.specs.Reading.{edits_of}
use Rattle.report_io.proofs.laws.PartLimits.{IsEditItem}
use Rattle.report_io.proofs.laws.PartsWithin.{some_of, mapped_of, number_within-some, each_or_fault-ok, unless_many-ok}
use Rattle.report_io.proofs.laws.Within.{each_told}
use Rattle.weave.specs.declared.step.Step.{Step}
use Rattle.weave.specs.declared.step.Step.TheVariants.{Take, Append, Back}
use Rattle.weave.specs.Answers.{IsStepOf}
use Rattle.weave_script.specs.declared.script.ScriptFault.TheVariants.{TooManySteps, BadStep}
use Rattle.weave_script.specs.Reading.{StepItem, taken, appended, returned, place, tagged, step_in, step_of, step_items}
use Rattle.weave_script.specs.Scripts.{step_item}
use Rattle.weave_script.proofs.Laws.{where_of, either_of, edits_of-some, edits_within}

abbrev IsStepItem : ℕ → StepItem → Type 0
IsStepItem n (taken c v) = (c ≤ 16) × (v ≤ n)
IsStepItem n (appended c edits) = (c ≤ 16) × Each (IsEditItem n) edits
IsStepItem n (returned c v) = (c ≤ 16) × (v ≤ n)

-- a step with a place
placed : (n c : ℕ) (make : ℕ → StepItem) (d : Data) (x : StepItem) → ((v : ℕ) → v ≤ n → IsStepItem n (make v)) → option_map make (place n d) ≡ Some x → IsStepItem n x
placed n c make d x is h =
    let (v, at, same) = mapped_of make (place n d) x h in
    subst (IsStepItem n) same (is v (number_within-some 0 n d v at).1)

edited : (n c : ℕ) (d : Data) (x : StepItem) → c ≤ 16 → option_map (appended c) (edits_of n d) ≡ Some x → IsStepItem n x
edited n c d x few h =
    let (edits, at, same) = mapped_of (appended c) (edits_of n d) x h in
    subst (IsStepItem n) same (few, edits_of-some n d edits at)

tagged-some : (n : ℕ) (t : Data) (c : ℕ) (d : Data) (x : StepItem) → c ≤ 16 → tagged n t c d ≡ Some x → IsStepItem n x
tagged-some n t c d x few h =
    let last : Option StepItem = cond (is_tag (codes "back") t) (option_map (returned c) (place n d)) None in
    let later : Option StepItem = cond (is_tag (codes "append") t) (option_map (appended c) (edits_of n d)) last in
    elim (either_of (is_tag (codes "take") t) (option_map (taken c) (place n d)) later x h) [
      | inl one ↦ placed n c (taken c) d x (λ v l. (few, l)) one
      | inr two ↦ elim (either_of (is_tag (codes "append") t) (option_map (appended c) (edits_of n d)) last x two) [
        | inl three ↦ edited n c d x few three
        | inr four ↦ placed n c (returned c) d x (λ v l. (few, l)) (where_of (is_tag (codes "back") t) (option_map (returned c) (place n d)) x four)
      ]
    ]

none_of : (x : StepItem) → ◌≡◌ {A = Option StepItem} None (Some x) → ⊥
none_of x h = cc

step_in-some : (n : ℕ) (ds : List Data) (x : StepItem) → step_in n ds ≡ Some x → IsStepItem n x
step_in-some n [] x h = absurd (none_of x h)
step_in-some n (t ∷ []) x h = absurd (none_of x h)
step_in-some n (t ∷ c ∷ []) x h = absurd (none_of x h)
step_in-some n (t ∷ c ∷ d ∷ []) x h =
    let (caller, at, is) = some_of (λ k. tagged n t k d) (number_within 1 16 c) x h in
    tagged-some n t caller d x (number_within-some 1 16 c caller at).1 is
step_in-some n (t ∷ c ∷ d ∷ e ∷ more) x h = absurd (none_of x h)

step_of-some : (n : ℕ) (d : Data) (x : StepItem) → step_of n d ≡ Some x → IsStepItem n x
step_of-some n d x h = let (ds, at, is) = some_of (step_in n) (array_list d) x h in step_in-some n ds x is

step_within : (n : ℕ) (s : Step) → IsStepItem n (step_item s) → IsStepOf n s
step_within n (Take c v) h = h
step_within n (Append c edits) h = (h.0, edits_within n edits h.1)
step_within n (Back c v) h = h

-- steps that were read are steps, and few
pub steps_within : (n : ℕ) (items : List Data) (list : List Step) → step_items n items ≡ Ok (map step_item list) → All (IsStepOf n) list × (length list ≤ 100000)
steps_within n items list h =
    let (few, is) = unless_many-ok 100000 TooManySteps items (each_or_fault (step_of n) BadStep items) (map step_item list) h in
    let all = each_or_fault-ok (IsStepItem n) (step_of n) BadStep items (map step_item list) (step_of-some n) is in
    let count = all.1 in
    let same = length-map list step_item in
    (each_told (IsStepOf n) (IsStepItem n) step_item list (step_within n) all.0, omega (arith, few, count, same))
