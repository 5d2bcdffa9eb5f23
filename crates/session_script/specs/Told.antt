-- For private clauses.
-- How a reading of commands is answered.
use Rattle.std.specs.Prelude.{◌≡◌, ◌⊎◌, ℕ, List, map, Result, Ok, Err, Vec}
use Rattle.std.specs.declared.alloc.Global.{Global}
use Rattle.edit_session.specs.declared.command.EditCommand.{EditCommand}
use Rattle.session_script.specs.declared.script.SessionScript.{SessionScript}
use Rattle.session_script.specs.declared.script.SessionFault.{SessionFault}
use Rattle.session_script.specs.declared.script.SessionFault.TheVariants.{NotJson, NoInstance, NoCommands, Instance, TooManyCommands, BadCommand, NoMemory}
use Rattle.session_script.specs.Reading.{CommandItem}
use Rattle.session_script.specs.Sessions.{command_item, IsSession}

-- the fault is one of commands
abbrev pub IsOfCommands : SessionFault → Type 0
IsOfCommands NotJson = ⊥
IsOfCommands NoInstance = ⊥
IsOfCommands NoCommands = ⊥
IsOfCommands (Instance fault) = ⊥
IsOfCommands (TooManyCommands count) = Unit {0}
IsOfCommands (BadCommand place) = Unit {0}
IsOfCommands NoMemory = ⊥

-- the fault, or want of memory
abbrev pub IsOr : (wanted fault : SessionFault) → Type 0
IsOr wanted fault = (fault ≡ NoMemory) ⊎ (fault ≡ wanted)

-- what is found, as it is told, or the fault; or memory was not found
abbrev pub Answers : {X A : Type 0} → (X → A) → Result A SessionFault → Result X SessionFault → Type 0
Answers tell reading (Ok x) = reading ≡ Ok (tell x)
Answers tell reading (Err fault) = (fault ≡ NoMemory) ⊎ (IsOfCommands fault × (reading ≡ Err fault))

abbrev pub tell_commands : Vec EditCommand Global → List CommandItem
tell_commands v = map command_item v.items

abbrev pub IsSessionOf : List ℕ → SessionScript → Type 0
IsSessionOf input script = IsSession input script.points script.costs script.commands.items
