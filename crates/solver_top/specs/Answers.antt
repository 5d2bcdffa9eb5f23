-- What the program answers to its words and its input: a verdict and a text. (This project's own.)
use Rattle.std.specs.Prelude.{◌≡◌, ℕ, ◌+◌, ◌≤◌, List, [], length, codes, ◌⊎◌, Some, Bool, true, false}
use Rattle.std.specs.declared.option.Option.{Option}
use Rattle.mcp_outside.specs.Bytes.{Took}
use Rattle.plane.specs.declared.coordinates.Point.{Point}
use Rattle.plane.specs.declared.segment.Pair.{Pair}
use Rattle.plane.specs.Accepted.{AreAccepted}
use Rattle.cost_defs.specs.Costs.{Costed}
use Rattle.text_defs.specs.Instances.{instance_from}
use Rattle.instance_io.specs.Refusal.{Gives}
use Rattle.solver_top.specs.declared.words.Command.{Command}
use Rattle.solver_top.specs.declared.words.Command.TheVariants.{Judge, Start, Solve, Check, Part, Weave, Rewind, EditSession, Gen, GenSolve}
use Rattle.solver_top.specs.declared.status.Verdict.{Verdict}
use Rattle.solver_top.specs.declared.status.Verdict.TheVariants.{Done, Usage, Refused}
use Rattle.solver_top.specs.Words.{IsLineOf, IsFaultAt}
use Rattle.solver_top.specs.Lines.{usage_line}
use Rattle.solver_top.specs.Bundles.{HasBundle}
use Rattle.solver_top.specs.Judging.{IsJudged}
use Rattle.solver_top.specs.Starting.{IsStarted}
use Rattle.solver_top.specs.Solving.{IsSolveAnswer}
use Rattle.solver_top.specs.Checking.{IsCheckAnswer, IsPartAnswer, IsRewindAnswer}
use Rattle.solver_top.specs.Editing.{IsEditAnswer}
use Rattle.solver_top.specs.Weaving.{IsWeaveAnswer}
use Rattle.solver_top.specs.Generating.{IsGenerated}
use Rattle.weave.specs.declared.step.Step.{Step}
use Rattle.weave_script.specs.Scripts.{IsScript}
use Rattle.report_io.specs.declared.report.Report.{Report}
use Rattle.report_io.specs.Report.{Gives as GivesReport}
use Rattle.report_answers.specs.Rewinding.{ReachesReport}
use Rattle.edit_session.specs.declared.command.EditCommand.{EditCommand}
use Rattle.session_script.specs.Sessions.{IsSession}
use Rattle.solve_report.specs.Texts.{IsSolvedLine}

-- the greatest input, in bytes
abbrev pub most_input : ℕ
most_input = 33554432

-- an input that is too long is refused before all else, one byte past the limit
abbrev pub IsTooLong : List ℕ → Option (List ℕ) → Verdict → List ℕ → Type 0
IsTooLong input left verdict text = Took (most_input + 1) input left × (verdict ≡ Refused) × (text ≡ codes "refused TooLong\n")

-- a command that reads its input to the end
abbrev pub ReadsAll : (List ℕ → Verdict → List ℕ → Type 0) → List ℕ → Option (List ℕ) → Verdict → List ℕ → Type 0
ReadsAll Answers input left verdict text =
    IsTooLong input left verdict text ⊎ ((length input ≤ most_input) × (left ≡ Some []) × Answers input verdict text)

-- the numbers of a command are within their limits
abbrev pub IsInRange : Command → Type 0
IsInRange Judge = Unit {0}
IsInRange Start = Unit {0}
IsInRange (Solve edit_workers bound_workers rounds seed) = (edit_workers ≤ 16) × (bound_workers ≤ 16) × (rounds ≤ 1000)
IsInRange Check = Unit {0}
IsInRange (Part name) = Unit {0}
IsInRange Weave = Unit {0}
IsInRange (Rewind k) = k ≤ 200000
IsInRange EditSession = Unit {0}
IsInRange (Gen kind n seed) = (3 ≤ n) × (n ≤ 5000)
IsInRange (GenSolve kind n seed) = (3 ≤ n) × (n ≤ 5000)

-- a command reads its input
abbrev pub reads_input : Command → Bool
reads_input Judge = true
reads_input Start = true
reads_input (Solve edit_workers bound_workers rounds seed) = true
reads_input Check = true
reads_input (Part name) = true
reads_input Weave = true
reads_input (Rewind k) = true
reads_input EditSession = true
reads_input (Gen kind n seed) = false
reads_input (GenSolve kind n seed) = false

-- what a command answers to the input that it read; one that reads none answers the same to each
abbrev pub IsAnswerTo : Command → List ℕ → Verdict → List ℕ → Type 0
IsAnswerTo Judge input verdict text = IsJudged input verdict text
IsAnswerTo Start input verdict text = IsStarted input verdict text
IsAnswerTo (Solve edit_workers bound_workers rounds seed) input verdict text = IsSolveAnswer edit_workers bound_workers rounds seed input verdict text
IsAnswerTo Check input verdict text = IsCheckAnswer input verdict text
IsAnswerTo (Part name) input verdict text = IsPartAnswer name input verdict text
IsAnswerTo Weave input verdict text = IsWeaveAnswer input verdict text
IsAnswerTo (Rewind k) input verdict text = IsRewindAnswer k input verdict text
IsAnswerTo EditSession input verdict text = IsEditAnswer input verdict text
IsAnswerTo (Gen kind n seed) input verdict text = (verdict ≡ Done) × IsGenerated kind n seed text
IsAnswerTo (GenSolve kind n seed) input verdict text = (verdict ≡ Done) × IsSolvedLine kind n seed text

-- the input is read to its end, or left alone
abbrev pub TakesInput : Bool → (List ℕ → Verdict → List ℕ → Type 0) → List ℕ → Option (List ℕ) → Verdict → List ℕ → Type 0
TakesInput true Answers input left verdict text = ReadsAll Answers input left verdict text
TakesInput false Answers input left verdict text = (left ≡ Some input) × Answers input verdict text

-- what a command answers, of the bytes that the source had left, with what it has left then
abbrev pub IsAnswerOf : Command → List ℕ → Option (List ℕ) → Verdict → List ℕ → Type 0
IsAnswerOf command input left verdict text = TakesInput (reads_input command) (IsAnswerTo command) input left verdict text

-- words that are no line, and the text that shows the position
abbrev pub IsUsageText : List (List ℕ) → List ℕ → Type 0
IsUsageText words text = (k : ℕ) × IsFaultAt words k × (text ≡ usage_line k)

-- words that are no line, with the position that is shown; nothing is read
abbrev pub IsUsage : List (List ℕ) → List ℕ → Option (List ℕ) → Verdict → List ℕ → Type 0
IsUsage words input left verdict text = (verdict ≡ Usage) × (left ≡ Some input) × IsUsageText words text

-- what the program answers
abbrev pub IsAnswer : List (List ℕ) → List ℕ → Option (List ℕ) → Verdict → List ℕ → Type 0
IsAnswer words input left verdict text =
    IsUsage words input left verdict text ⊎ ((command : Command) × IsLineOf words command × IsAnswerOf command input left verdict text)

-- the input is an instance, within the limit
abbrev pub HasInstance : List ℕ → Type 0
HasInstance input = (length input ≤ most_input)
    × ((name : List ℕ) × (S : List Point) × (D : List Costed) × Gives (instance_from input) name S D × AreAccepted S)

-- the input is a report, within the limit
abbrev pub HasReport : List ℕ → Type 0
HasReport input = (length input ≤ most_input) × ((r : Report) × GivesReport input r × AreAccepted r.instance.points)

-- the input is a script, within the limit
abbrev pub HasScript : List ℕ → Type 0
HasScript input = (length input ≤ most_input) × ((S : List Point) × (list : List Step) × IsScript input S list)

-- the input is a report with at least k commits, within the limit
abbrev pub HasReportTo : ℕ → List ℕ → Type 0
HasReportTo k input = (length input ≤ most_input) × ((r : Report) × ReachesReport k input r)

-- the input is a session of edits, within the limit
abbrev pub HasSession : List ℕ → Type 0
HasSession input = (length input ≤ most_input) × ((S : List Point) × (D : List Costed) × (list : List EditCommand) × IsSession input S D list)

-- the input has its reading for the command, within the limit
abbrev pub HasInput : Command → List ℕ → Type 0
HasInput Judge input = (length input ≤ most_input) × ((S : List Point) × (K : List Pair) × HasBundle input S K)
HasInput Start input = HasInstance input
HasInput (Solve edit_workers bound_workers rounds seed) input = HasInstance input
HasInput Check input = HasReport input
HasInput (Part name) input = HasReport input
HasInput Weave input = HasScript input
HasInput (Rewind k) input = HasReportTo k input
HasInput EditSession input = HasSession input
HasInput (Gen kind n seed) input = Unit {0}
HasInput (GenSolve kind n seed) input = Unit {0}
