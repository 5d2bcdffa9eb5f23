-- What was read is within the limits.
use Rattle.std.proofs.Common.{◌≡◌, ℕ, ◌≤◌, List, length, Result, Ok, Err, All, IfOk, inl, inr, sym, subst}
use Rattle.std.specs.Prelude.{MatchResult}
use Rattle.serde_json.specs.Data.{Data}
use Rattle.plane.specs.Accepted.{AreAccepted}
use Rattle.text_defs.specs.Instances.{instance_in}
use Rattle.instance_io.specs.declared.instances.Instance.{Instance}
use Rattle.instance_io.specs.Refusal as instances
use Rattle.weave.specs.Answers.{IsStepOf}
use Rattle.weave_script.specs.declared.script.Script.{Script}
use Rattle.weave_script.specs.declared.script.ScriptFault.{ScriptFault}
use Rattle.weave_script.specs.declared.script.ScriptFault.TheVariants.{NotJson, NoInstance, NoSteps, TooManySteps, BadStep, NoMemory, Instance as Refused}
use Rattle.weave_script.specs.Reading.{step_items}
use Rattle.weave_script.specs.Scripts.{HasParts, HasStepsFault, HasFault}
use Rattle.weave_script.specs.Told.{IsOfSteps, Answers, tell_steps, IsScriptOf}
use Rattle.weave_script.proofs.Within.{steps_within}

has_steps_fault : (bytes : List ℕ) (fault : ScriptFault) → IsOfSteps fault → HasStepsFault bytes fault → HasFault bytes fault
has_steps_fault bytes NotJson k h = absurd k
has_steps_fault bytes NoInstance k h = absurd k
has_steps_fault bytes NoSteps k h = absurd k
has_steps_fault bytes (Refused f) k h = absurd k
has_steps_fault bytes (TooManySteps count) k h = h
has_steps_fault bytes (BadStep place) k h = h
has_steps_fault bytes NoMemory k h = absurd k

-- a fault of the steps of an input with an instance
pub steps_refused : (bytes : List ℕ) (I : Instance) (n : ℕ) (d : Data) (items : List Data) (fault : ScriptFault) → HasParts bytes d items → instances.IsRead (instance_in d) (Ok I) → AreAccepted I.points
    → n ≡ length I.points → Answers tell_steps (step_items n items) (Err fault) → HasFault bytes fault
steps_refused bytes I n d items fault parts read accepted count (inl none) = subst (HasFault bytes) (sym none) tt
steps_refused bytes I n d items fault parts read accepted count (inr (kind, refused)) =
    has_steps_fault bytes fault kind
    (I.points, items, record { instance = d; parts = parts; name = I.name; costs = I.costs; gives = read; accepted = accepted }, subst (λ (m : ℕ). step_items m items ≡ Err fault) count refused)

pub read_steps : (bytes : List ℕ) (r : Result Script ScriptFault) → MatchResult r (IsScriptOf bytes) (HasFault bytes) → IfOk r (λ s. All (IsStepOf (length s.points)) s.steps.items)
read_steps bytes (Ok s) (items, has, is) = (steps_within (length s.points) items s.steps.items is).0
read_steps bytes (Err fault) h = tt

pub read_few : (bytes : List ℕ) (r : Result Script ScriptFault) → MatchResult r (IsScriptOf bytes) (HasFault bytes) → IfOk r (λ s. length s.steps.items ≤ 100000)
read_few bytes (Ok s) (items, has, is) = (steps_within (length s.points) items s.steps.items is).1
read_few bytes (Err fault) h = tt
