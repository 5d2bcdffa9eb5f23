-- For private clauses.
-- How a reading in steps is answered.
use Rattle.std.specs.Prelude.{◌≡◌, ◌⊎◌, ℕ, List, map, Result, Ok, Err, Vec}
use Rattle.std.specs.declared.alloc.Global.{Global}
use Rattle.weave.specs.declared.step.Step.{Step}
use Rattle.weave_script.specs.declared.script.Script.{Script}
use Rattle.weave_script.specs.declared.script.ScriptFault.{ScriptFault}
use Rattle.weave_script.specs.declared.script.ScriptFault.TheVariants.{NotJson, NoInstance, NoSteps, Instance, TooManySteps, BadStep, NoMemory}
use Rattle.weave_script.specs.Reading.{StepItem}
use Rattle.weave_script.specs.Scripts.{step_item, IsScript}

-- the fault is one of steps
abbrev pub IsOfSteps : ScriptFault → Type 0
IsOfSteps NotJson = ⊥
IsOfSteps NoInstance = ⊥
IsOfSteps NoSteps = ⊥
IsOfSteps (Instance fault) = ⊥
IsOfSteps (TooManySteps count) = Unit {0}
IsOfSteps (BadStep place) = Unit {0}
IsOfSteps NoMemory = ⊥

-- the fault, or want of memory
abbrev pub IsOr : (wanted fault : ScriptFault) → Type 0
IsOr wanted fault = (fault ≡ NoMemory) ⊎ (fault ≡ wanted)

-- what is found, as it is told, or the fault; or memory was not found
abbrev pub Answers : {X A : Type 0} → (X → A) → Result A ScriptFault → Result X ScriptFault → Type 0
Answers tell reading (Ok x) = reading ≡ Ok (tell x)
Answers tell reading (Err fault) = (fault ≡ NoMemory) ⊎ (IsOfSteps fault × (reading ≡ Err fault))

abbrev pub tell_steps : Vec Step Global → List StepItem
tell_steps v = map step_item v.items

abbrev pub IsScriptOf : List ℕ → Script → Type 0
IsScriptOf input script = IsScript input script.points script.steps.items
