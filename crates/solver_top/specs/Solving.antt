-- What `solve` answers to an input. (This project's own.)
use Rattle.std.specs.Prelude.{◌≡◌, ℕ, ◌≤◌, List, length, ◌⊎◌, Ok}
use Rattle.std.specs.declared.option.Option.{Option}
use Rattle.std.specs.Io.KnownBytes.{Appends}
use Rattle.plane.specs.Accepted.{AreAccepted}
use Rattle.text_defs.specs.Instances.{instance_from}
use Rattle.instance_io.specs.Refusal.{IsRead}
use Rattle.report_io.specs.declared.report.Report.{Report}
use Rattle.report_io.specs.Report.{report_text}
use Rattle.solve_report.specs.Reports.{IsSolvedReport, HasBest, IsPlainReport, IsWorkedReport}
use Rattle.solver_top.specs.declared.status.Verdict.{Verdict}
use Rattle.solver_top.specs.declared.status.Verdict.TheVariants.{Done, No, Usage, Refused}
use Rattle.solver_top.specs.Starting.{IsRefusedInstance}

-- The report is of the instance that the input is, solved with E edit workers and so many bound workers: one start,
-- journal, solution and certificate of a solved instance, the certificate being the best that the bound workers find.
-- The start is all sweep pairs. Where no edit worker makes a round the journal is their sweep alone; else it is their sweep,
-- the edit workers' commits and another sweep, and with one edit worker it is fixed. The start has no more segments than a
-- triangulation of 5,000 points, and the solution no more than the start.
pub record IsSolvedFrom (input : List ℕ) (E workers rounds seed : ℕ) (r : Report) : Type 0 where
  pub read : IsRead (instance_from input) (Ok r.instance)
  pub accepted : AreAccepted r.instance.points
  pub solved : IsSolvedReport E r
  pub best : HasBest workers rounds seed r
  pub plain : (E ≡ 0) ⊎ (rounds ≡ 0) → IsPlainReport r
  pub worked : 1 ≤ E → 1 ≤ rounds → IsWorkedReport E rounds seed r
  pub few : length r.start ≤ 15000
  pub fewer : length r.solution ≤ length r.start

-- the report of the instance, or the refusal of an input that is none
abbrev pub IsSolveAnswer : (E workers rounds seed : ℕ) → List ℕ → Verdict → List ℕ → Type 0
IsSolveAnswer E workers rounds seed input Done text = (r : Report) × IsSolvedFrom input E workers rounds seed r × (text ≡ report_text r)
IsSolveAnswer E workers rounds seed input No text = ⊥
IsSolveAnswer E workers rounds seed input Usage text = ⊥
IsSolveAnswer E workers rounds seed input Refused text = IsRefusedInstance input text

-- the text of a report was written, and this holds of the report
abbrev pub Reports : (Report → Type 0) → (old new : Option (List ℕ)) → Type 0
Reports Holds old new = (r : Report) × Appends old new (report_text r) × Holds r
