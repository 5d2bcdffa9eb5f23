-- The reading of the lines behind an instance is what was written.
use Rattle.std.proofs.Common.{◌≡◌, ℕ, ◌^◌, ◌≤◌, Ok, IsUtf8, refl, ap, ◌∙◌}
use Rattle.serde_json.specs.Data.{Data, depth}
use Rattle.serde_json.specs.Written.{compact_text}
use Rattle.text_defs.specs.Steps.{◌>>=◌, or_fault}
use Rattle.text_defs.specs.Texts.{solution_data}
use Rattle.text_defs.proofs.laws.IsPlain.{IsPlain}
use Rattle.text_defs.proofs.laws.PlainTexts.{json_reading-compact_text}
use Rattle.text_defs.proofs.laws.Solutions.{solution_plain, solution_shallow}
use Rattle.solution_io.specs.declared.fault.SolutionFault.TheVariants as named
use Rattle.report_io.specs.declared.faults.CertLine.TheVariants as cert
use Rattle.report_io.specs.declared.faults.JournalLine.TheVariants as journal
use Rattle.report_io.specs.declared.faults.SummaryLine.TheVariants as sums
use Rattle.report_io.specs.declared.faults.ReportFault.{ReportFault}
use Rattle.report_io.specs.declared.faults.ReportFault.TheVariants as at
use Rattle.report_io.specs.Parts.{LaterParts}
use Rattle.report_io.specs.Reading.{line, solution_in, certificate_in, journal_in, summary_in, solution_from, certificate_from, journal_from, summary_from, later_from}
use Rattle.report_io.specs.Texts.{certificate_data, journal_data, summary_data}
use Rattle.report_io.proofs.laws.PartLimits.{AreLaterParts}
use Rattle.report_io.proofs.laws.PartsBack.{solution_back, certificate_back, journal_back, summary_back}
use Rattle.report_io.proofs.laws.PartsPlain.{certificate_plain, journal_plain, summary_plain, certificate_shallow, journal_shallow, summary_shallow}

line_back : (fault : ReportFault) (d : Data) → IsPlain d → depth d ≤ 64 → line fault (compact_text d) ≡ Ok d
line_back fault d h s = ap (or_fault fault) (json_reading-compact_text d h s)

pub later_back : (n : ℕ) (r : LaterParts) → n ≤ 2 ^ 63 → IsUtf8 r.solution.name → AreLaterParts n r
    → later_from n (compact_text (solution_data r.solution.name r.solution.pairs)) (compact_text (certificate_data r.certificate)) (compact_text (journal_data r.journal)) (compact_text (summary_data r.summary)) ≡ Ok r
unfolding later_from
later_back n r small u h =
    let s : solution_from n (compact_text (solution_data r.solution.name r.solution.pairs)) ≡ Ok r.solution =
    ap (λ x. x >>= solution_in n) (line_back (at.Solution named.NotJson) (solution_data r.solution.name r.solution.pairs) (solution_plain n r.solution.name r.solution.pairs small h.solution.pairs u) (solution_shallow r.solution.name r.solution.pairs))
    ∙ solution_back n r.solution small h.solution in
    let c : certificate_from n (compact_text (certificate_data r.certificate)) ≡ Ok r.certificate =
    ap (λ x. x >>= certificate_in n) (line_back (at.Certificate cert.NotJson) (certificate_data r.certificate) (certificate_plain n small r.certificate h.certificate) (certificate_shallow r.certificate))
    ∙ certificate_back n r.certificate h.certificate in
    let j : journal_from n (compact_text (journal_data r.journal)) ≡ Ok r.journal =
    ap (λ x. x >>= journal_in n) (line_back (at.Journal journal.NotJson) (journal_data r.journal) (journal_plain n small r.journal h.journal.commits h.journal.start) (journal_shallow r.journal))
    ∙ journal_back n r.journal h.journal in
    let m : summary_from (compact_text (summary_data r.summary)) ≡ Ok r.summary =
    ap (λ x. x >>= summary_in) (line_back (at.Summary sums.NotJson) (summary_data r.summary) (summary_plain r.summary h.summary) (summary_shallow r.summary))
    ∙ summary_back r.summary h.summary in
    rw s (rw c (rw j (rw m refl)))
