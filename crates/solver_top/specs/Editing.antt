-- What `edit` answers to an input. (This project's own.)
use Rattle.std.specs.Prelude.{◌≡◌, ◌≢◌, ℕ, List, All, length}
use Rattle.plane.specs.declared.coordinates.Point.{Point}
use Rattle.cost_defs.specs.Costs.{Costed}
use Rattle.edit_session.specs.declared.command.EditCommand.{EditCommand}
use Rattle.edit_session.specs.Sessions.{IsCommandOf}
use Rattle.session_script.specs.declared.script.SessionFault.{SessionFault}
use Rattle.session_script.specs.declared.script.SessionFault.TheVariants.{NoMemory}
use Rattle.session_script.specs.Sessions.{IsSession, HasFault}
use Rattle.session_script.specs.Lines.{refused_line}
use Rattle.session_script.specs.Playing.{IsPlayed}
use Rattle.solver_top.specs.declared.status.Verdict.{Verdict}
use Rattle.solver_top.specs.declared.status.Verdict.TheVariants.{Done, No, Usage, Refused}

-- the first fault of an input that is no session, printed
abbrev pub IsRefusedSession : List ℕ → List ℕ → Type 0
IsRefusedSession input text = (fault : SessionFault) × (fault ≢ NoMemory) × HasFault input fault × (text ≡ refused_line fault)

-- the session that the input is, played on the core of its start, or the refusal
abbrev pub IsEditAnswer : List ℕ → Verdict → List ℕ → Type 0
IsEditAnswer input Done text = (S : List Point) × (D : List Costed) × (list : List EditCommand) × IsSession input S D list
    × All (IsCommandOf (length S)) list × IsPlayed S D list text
IsEditAnswer input No text = ⊥
IsEditAnswer input Usage text = ⊥
IsEditAnswer input Refused text = IsRefusedSession input text
