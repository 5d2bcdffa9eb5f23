-- What the commands on reports answer to an input. (This project's own.)
use Rattle.std.specs.Prelude.{◌≡◌, ℕ, List}
use Rattle.std.specs.declared.option.Option.{Option}
use Rattle.std.specs.Io.KnownBytes.{Appends}
use Rattle.report_io.specs.declared.report.Report.{Report}
use Rattle.report_io.specs.declared.report.Part.{Part}
use Rattle.report_io.specs.Report.{Gives}
use Rattle.report_defs.specs.Laws.{IsTold}
use Rattle.report_answers.specs.declared.answer.Told.{Told}
use Rattle.report_answers.specs.declared.answer.Told.TheVariants as told
use Rattle.report_answers.specs.Answers.{IsChecked, IsPart}
use Rattle.report_answers.specs.Lines.{valid_line}
use Rattle.report_answers.specs.Rewinding.{IsRewound}
use Rattle.solver_top.specs.declared.status.Verdict.{Verdict}
use Rattle.solver_top.specs.declared.status.Verdict.TheVariants.{Done, No, Refused}

abbrev pub verdict_of : Told → Verdict
verdict_of told.Yes = Done
verdict_of told.No = No
verdict_of told.Refused = Refused

-- the report that the input is, checked, or the refusal of an input that is none
abbrev pub IsCheckAnswer : List ℕ → Verdict → List ℕ → Type 0
IsCheckAnswer input verdict text = (told : Told) × (verdict ≡ verdict_of told) × IsChecked input told text

-- one part of the report that the input is, or the refusal
abbrev pub IsPartAnswer : Part → List ℕ → Verdict → List ℕ → Type 0
IsPartAnswer part input verdict text = (told : Told) × (verdict ≡ verdict_of told) × IsPart part input told text

-- what was kept after the first k commits of the report that the input is, or that the report isn't right, or the refusal
abbrev pub IsRewindAnswer : ℕ → List ℕ → Verdict → List ℕ → Type 0
IsRewindAnswer k input verdict text = (told : Told) × (verdict ≡ verdict_of told) × IsRewound k input told text

-- the input is a report of which the reader may rest on this, and its line was written
abbrev pub TellsReport : List ℕ → (old new : Option (List ℕ)) → Type 0
TellsReport input old new = (r : Report) × Gives input r × IsTold r × Appends old new (valid_line r.summary)
