-- What the commands on reports answer to an input. (This project's own.)
use Rattle.std.specs.Prelude.{◌≡◌, ◌≢◌, ℕ, List, ◌++◌, codes}
use Rattle.plane.specs.Accepted.{AreAccepted}
use Rattle.report_io.specs.declared.faults.ReportFault.{ReportFault}
use Rattle.report_io.specs.declared.faults.ReportFault.TheVariants.{NoMemory}
use Rattle.report_io.specs.declared.report.Report.{Report}
use Rattle.report_io.specs.declared.report.Part.{Part}
use Rattle.report_io.specs.Report.{Gives, HasFault, part_text}
use Rattle.report_defs.specs.declared.verdict.Verdict.{Verdict as ReportVerdict}
use Rattle.report_defs.specs.declared.verdict.Verdict.TheVariants.{Valid}
use Rattle.report_defs.specs.Relation.{IsRight}
use Rattle.report_defs.specs.Verdicts.{IsVerdict}
use Rattle.report_answers.specs.declared.answer.Told.{Told}
use Rattle.report_answers.specs.declared.answer.Told.TheVariants.{Yes, No, Refused}
use Rattle.report_answers.specs.Lines.{valid_line, no_line, refused_line}

-- the first fault of an input that is no report, printed
abbrev pub IsRefusedReport : List ℕ → List ℕ → Type 0
IsRefusedReport input text = (fault : ReportFault) × (fault ≢ NoMemory) × HasFault input fault × (text ≡ refused_line fault)

-- the input is this report
abbrev pub IsReportIn : List ℕ → Report → Type 0
IsReportIn input r = Gives input r × AreAccepted r.instance.points

-- the report that the input is, checked: it is right, or its first part that fails is printed
abbrev pub IsChecked : List ℕ → Told → List ℕ → Type 0
IsChecked input Yes text = (r : Report) × IsReportIn input r × IsRight r × (text ≡ valid_line r.summary)
IsChecked input No text = (r : Report) × (v : ReportVerdict) × IsReportIn input r × (v ≢ Valid) × IsVerdict r v × (text ≡ no_line v)
IsChecked input Refused text = IsRefusedReport input text

-- one part of the report that the input is, with its end of line
abbrev pub IsPart : Part → List ℕ → Told → List ℕ → Type 0
IsPart part input Yes text = (r : Report) × IsReportIn input r × (text ≡ part_text r part ++ codes "\n")
IsPart part input No text = ⊥
IsPart part input Refused text = IsRefusedReport input text
