-- A script, and why a text is none. (This project's own.)
use Rattle.std.specs.Prelude.{◌≡◌, ◌≢◌, ℕ, List, length, map, Ok, Err}
use Rattle.serde_json.specs.Data.{Data}
use Rattle.plane.specs.declared.coordinates.Point.{Point}
use Rattle.plane.specs.Accepted.{AreAccepted}
use Rattle.cost_defs.specs.Costs.{Costed}
use Rattle.text_defs.specs.Instances.{instance_in}
use Rattle.instance_io.specs.declared.instances.InstanceFault.{InstanceFault}
use Rattle.instance_io.specs.declared.instances.InstanceFault.TheVariants as instance
use Rattle.instance_io.specs.Refusal as instances
use Rattle.report_io.specs.Report.{edit_item}
use Rattle.weave.specs.declared.step.Step.{Step}
use Rattle.weave.specs.declared.step.Step.TheVariants.{Take, Append, Back}
use Rattle.weave_script.specs.declared.script.ScriptFault.{ScriptFault}
use Rattle.weave_script.specs.declared.script.ScriptFault.TheVariants.{NotJson, NoInstance, NoSteps, Instance, TooManySteps, BadStep, NoMemory}
use Rattle.weave_script.specs.Reading.{StepItem, taken, appended, returned, step_items, parts_from}

-- a step as its text gives it
abbrev pub step_item : Step → StepItem
step_item (Take c v) = taken c v
step_item (Append c edits) = appended c (map edit_item edits)
step_item (Back c v) = returned c v

-- the parts of a script, as values
abbrev pub HasParts : List ℕ → Data → List Data → Type 0
HasParts input instance items = parts_from input ≡ Ok (instance, items)

-- the input has an instance with these points, and these items of its steps
pub record HasInstance (input : List ℕ) (S : List Point) (items : List Data) : Type 0 where
  pub instance : Data
  pub parts : HasParts input instance items
  pub name : List ℕ
  pub costs : List Costed
  pub gives : instances.Gives (instance_in instance) name S costs
  pub accepted : AreAccepted S

-- the input is a script of an instance with these points, and these steps
abbrev pub IsScript : List ℕ → List Point → List Step → Type 0
IsScript input S list = (items : List Data) × HasInstance input S items × (step_items (length S) items ≡ Ok (map step_item list))

-- the input has an instance, and the steps have this fault
abbrev pub HasStepsFault : List ℕ → ScriptFault → Type 0
HasStepsFault input fault = (S : List Point) × (items : List Data) × HasInstance input S items × (step_items (length S) items ≡ Err fault)

-- the instance of the input has this fault
abbrev pub HasInstanceFault : List ℕ → InstanceFault → Type 0
HasInstanceFault input fault = (d : Data) × (items : List Data) × HasParts input d items
    × (fault ≢ instance.NoMemory) × instances.HasFault (instance_in d) fault

-- the first fault of an input: that of its parts, its instance's, that of its steps; want of memory says nothing
abbrev pub HasFault : List ℕ → ScriptFault → Type 0
HasFault input NotJson = parts_from input ≡ Err NotJson
HasFault input NoInstance = parts_from input ≡ Err NoInstance
HasFault input NoSteps = parts_from input ≡ Err NoSteps
HasFault input (Instance fault) = HasInstanceFault input fault
HasFault input (TooManySteps count) = HasStepsFault input (TooManySteps count)
HasFault input (BadStep place) = HasStepsFault input (BadStep place)
HasFault input NoMemory = Unit {0}
