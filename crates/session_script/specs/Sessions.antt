-- A session, and why a text is none. (This project's own.)
use Rattle.std.specs.Prelude.{◌≡◌, ◌≢◌, ℕ, List, length, map, Ok, Err}
use Rattle.serde_json.specs.Data.{Data}
use Rattle.plane.specs.declared.coordinates.Point.{Point}
use Rattle.plane.specs.Accepted.{AreAccepted}
use Rattle.cost_defs.specs.Costs.{Costed}
use Rattle.text_defs.specs.Instances.{instance_in}
use Rattle.instance_io.specs.declared.instances.InstanceFault.{InstanceFault}
use Rattle.instance_io.specs.declared.instances.InstanceFault.TheVariants as instance
use Rattle.instance_io.specs.Refusal as instances
use Rattle.report_io.specs.Report.{edit_item}
use Rattle.edit_session.specs.declared.command.EditCommand.{EditCommand}
use Rattle.edit_session.specs.declared.command.EditCommand.TheVariants.{Look, Commit, Undo, Bound}
use Rattle.session_script.specs.declared.script.SessionFault.{SessionFault}
use Rattle.session_script.specs.declared.script.SessionFault.TheVariants.{NotJson, NoInstance, NoCommands, Instance, TooManyCommands, BadCommand, NoMemory}
use Rattle.session_script.specs.Reading.{CommandItem, looked, committed, undone, bounded, command_items, parts_from}

-- a command as its text gives it
abbrev pub command_item : EditCommand → CommandItem
command_item (Look v) = looked v
command_item (Commit edits) = committed (map edit_item edits)
command_item Undo = undone
command_item Bound = bounded

-- the parts of a session, as values
abbrev pub HasParts : List ℕ → Data → List Data → Type 0
HasParts input instance items = parts_from input ≡ Ok (instance, items)

-- the input has an instance with these points and costs, and these items of its commands
pub record HasInstance (input : List ℕ) (S : List Point) (D : List Costed) (items : List Data) : Type 0 where
  pub instance : Data
  pub parts : HasParts input instance items
  pub name : List ℕ
  pub gives : instances.Gives (instance_in instance) name S D
  pub accepted : AreAccepted S

-- the input is a session of an instance with these points and costs, and these commands
abbrev pub IsSession : List ℕ → List Point → List Costed → List EditCommand → Type 0
IsSession input S D list =
    (items : List Data) × HasInstance input S D items × (command_items (length S) items ≡ Ok (map command_item list))

-- the input has an instance, and the commands have this fault
abbrev pub HasCommandsFault : List ℕ → SessionFault → Type 0
HasCommandsFault input fault =
    (S : List Point) × (D : List Costed) × (items : List Data) × HasInstance input S D items × (command_items (length S) items ≡ Err fault)

-- the instance of the input has this fault
abbrev pub HasInstanceFault : List ℕ → InstanceFault → Type 0
HasInstanceFault input fault = (d : Data) × (items : List Data) × HasParts input d items
    × (fault ≢ instance.NoMemory) × instances.HasFault (instance_in d) fault

-- the first fault of an input: that of its parts, its instance's, that of its commands; want of memory says nothing
abbrev pub HasFault : List ℕ → SessionFault → Type 0
HasFault input NotJson = parts_from input ≡ Err NotJson
HasFault input NoInstance = parts_from input ≡ Err NoInstance
HasFault input NoCommands = parts_from input ≡ Err NoCommands
HasFault input (Instance fault) = HasInstanceFault input fault
HasFault input (TooManyCommands count) = HasCommandsFault input (TooManyCommands count)
HasFault input (BadCommand place) = HasCommandsFault input (BadCommand place)
HasFault input NoMemory = Unit {0}
