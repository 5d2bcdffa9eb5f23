-- What `weave` answers to an input. (This project's own.)
use Rattle.std.specs.Prelude.{◌≡◌, ◌≢◌, ℕ, List, All, length}
use Rattle.plane.specs.declared.coordinates.Point.{Point}
use Rattle.weave.specs.declared.step.Step.{Step}
use Rattle.weave.specs.Answers.{IsStepOf}
use Rattle.weave_script.specs.declared.script.ScriptFault.{ScriptFault}
use Rattle.weave_script.specs.declared.script.ScriptFault.TheVariants.{NoMemory}
use Rattle.weave_script.specs.Scripts.{IsScript, HasFault}
use Rattle.weave_script.specs.Lines.{refused_line}
use Rattle.weave_script.specs.Playing.{IsPlayed}
use Rattle.solver_top.specs.declared.status.Verdict.{Verdict}
use Rattle.solver_top.specs.declared.status.Verdict.TheVariants.{Done, No, Usage, Refused}

-- the first fault of an input that is no script, printed
abbrev pub IsRefusedScript : List ℕ → List ℕ → Type 0
IsRefusedScript input text = (fault : ScriptFault) × (fault ≢ NoMemory) × HasFault input fault × (text ≡ refused_line fault)

-- the script that the input is, played on the core of its start, or the refusal
abbrev pub IsWeaveAnswer : List ℕ → Verdict → List ℕ → Type 0
IsWeaveAnswer input Done text = (S : List Point) × (list : List Step) × IsScript input S list × All (IsStepOf (length S)) list × IsPlayed S list text
IsWeaveAnswer input No text = ⊥
IsWeaveAnswer input Usage text = ⊥
IsWeaveAnswer input Refused text = IsRefusedScript input text
