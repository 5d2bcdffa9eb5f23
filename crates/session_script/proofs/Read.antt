-- What was read is within the limits.
use Rattle.std.proofs.Common.{◌≡◌, ℕ, ◌≤◌, List, length, Result, Ok, Err, All, IfOk, inl, inr, sym, subst}
use Rattle.std.specs.Prelude.{MatchResult}
use Rattle.serde_json.specs.Data.{Data}
use Rattle.plane.specs.Accepted.{AreAccepted}
use Rattle.text_defs.specs.Instances.{instance_in}
use Rattle.instance_io.specs.declared.instances.Instance.{Instance}
use Rattle.instance_io.specs.Refusal as instances
use Rattle.edit_session.specs.Sessions.{IsCommandOf}
use Rattle.session_script.specs.declared.script.SessionScript.{SessionScript}
use Rattle.session_script.specs.declared.script.SessionFault.{SessionFault}
use Rattle.session_script.specs.declared.script.SessionFault.TheVariants.{NotJson, NoInstance, NoCommands, TooManyCommands, BadCommand, NoMemory, Instance as Refused}
use Rattle.session_script.specs.Reading.{command_items}
use Rattle.session_script.specs.Sessions.{HasParts, HasCommandsFault, HasFault}
use Rattle.session_script.specs.Told.{IsOfCommands, Answers, tell_commands, IsSessionOf}
use Rattle.session_script.proofs.Within.{commands_within}

has_commands_fault : (bytes : List ℕ) (fault : SessionFault) → IsOfCommands fault → HasCommandsFault bytes fault → HasFault bytes fault
has_commands_fault bytes NotJson k h = absurd k
has_commands_fault bytes NoInstance k h = absurd k
has_commands_fault bytes NoCommands k h = absurd k
has_commands_fault bytes (Refused f) k h = absurd k
has_commands_fault bytes (TooManyCommands count) k h = h
has_commands_fault bytes (BadCommand place) k h = h
has_commands_fault bytes NoMemory k h = absurd k

-- a fault of the commands of an input with an instance
pub commands_refused : (bytes : List ℕ) (I : Instance) (n : ℕ) (d : Data) (items : List Data) (fault : SessionFault) → HasParts bytes d items → instances.IsRead (instance_in d) (Ok I) → AreAccepted I.points
    → n ≡ length I.points → Answers tell_commands (command_items n items) (Err fault) → HasFault bytes fault
commands_refused bytes I n d items fault parts read accepted count (inl none) = subst (HasFault bytes) (sym none) tt
commands_refused bytes I n d items fault parts read accepted count (inr (kind, refused)) =
    has_commands_fault bytes fault kind
    (I.points, I.costs, items, record { instance = d; parts = parts; name = I.name; gives = read; accepted = accepted }, subst (λ (m : ℕ). command_items m items ≡ Err fault) count refused)

pub read_commands : (bytes : List ℕ) (r : Result SessionScript SessionFault) → MatchResult r (IsSessionOf bytes) (HasFault bytes) → IfOk r (λ s. All (IsCommandOf (length s.points)) s.commands.items)
read_commands bytes (Ok s) (items, has, is) = (commands_within (length s.points) items s.commands.items is).0
read_commands bytes (Err fault) h = tt

pub read_few : (bytes : List ℕ) (r : Result SessionScript SessionFault) → MatchResult r (IsSessionOf bytes) (HasFault bytes) → IfOk r (λ s. length s.commands.items ≤ 100000)
read_few bytes (Ok s) (items, has, is) = (commands_within (length s.points) items s.commands.items is).1
read_few bytes (Err fault) h = tt
