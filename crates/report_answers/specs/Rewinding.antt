-- What is answered to an input that should be a report of which an earlier moment is asked for. (This project's own.)
use Rattle.std.specs.Prelude.{◌≡◌, ◌≢◌, ℕ, ◌<◌, ◌≤◌, ◌⊎◌, List, ◌++◌, map, length, take, codes}
use Rattle.plane.specs.declared.segment.Pair.{Pair}
use Rattle.text_defs.specs.Texts.{solution_text}
use Rattle.instance_io.specs.Refusal.{ends}
use Rattle.journal_defs.specs.Journal.{replay}
use Rattle.report_io.specs.declared.report.Report.{Report}
use Rattle.report_defs.specs.declared.verdict.Verdict.{Verdict as ReportVerdict}
use Rattle.report_defs.specs.declared.verdict.Verdict.TheVariants.{Valid}
use Rattle.report_defs.specs.Relation.{IsRight, IsStartInOrder}
use Rattle.report_defs.specs.Verdicts.{IsVerdict}
use Rattle.report_answers.specs.declared.answer.Told.{Told}
use Rattle.report_answers.specs.declared.answer.Told.TheVariants.{Yes, No, Refused}
use Rattle.report_answers.specs.Answers.{IsRefusedReport, IsReportIn}
use Rattle.report_answers.specs.Lines.{no_line, too_late_line}

-- the list has the pairs that are kept after the first k commits, ascending
abbrev pub AreKeptAfter : Report → ℕ → List Pair → Type 0
AreKeptAfter r k list = (start : List Pair) × IsStartInOrder r start × (list ≡ (replay start (take k r.commits)).kept)

-- the input is a report with at least k commits
abbrev pub ReachesReport : ℕ → List ℕ → Report → Type 0
ReachesReport k input r = IsReportIn input r × (k ≤ length r.commits)

-- the input is a report with fewer than k commits, whose number is shown
abbrev pub IsTooLate : ℕ → List ℕ → List ℕ → Type 0
IsTooLate k input text = (r : Report) × IsReportIn input r × (length r.commits < k) × (text ≡ too_late_line (length r.commits))

-- The pairs that are kept after the first k commits of the report that the input is, as a solution of its instance; or the
-- first part of the report that fails; or the refusal of an input that is no report, or one with fewer commits.
abbrev pub IsRewound : ℕ → List ℕ → Told → List ℕ → Type 0
IsRewound k input Yes text = (r : Report) × (kept : List Pair) × ReachesReport k input r × IsRight r × AreKeptAfter r k kept
    × (text ≡ solution_text r.instance.name (map ends kept) ++ codes "\n")
IsRewound k input No text = (r : Report) × (v : ReportVerdict) × ReachesReport k input r × (v ≢ Valid) × IsVerdict r v × (text ≡ no_line v)
IsRewound k input Refused text = IsRefusedReport input text ⊎ IsTooLate k input text
