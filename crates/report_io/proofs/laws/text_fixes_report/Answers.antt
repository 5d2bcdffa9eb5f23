use Rattle.std.proofs.Common.{◌≡◌, Ok, sym, subst}
use Rattle.report_io.specs.Report.{IsRead, report_text}
use Rattle.report_io.proofs.laws.text_fixes_report.Goals as goal

pub returns : goal.returns
returns c e = c.report_reads_back-2.ensures.once c.args.one.now (subst (λ text. IsRead text (Ok c.args.one.now)) e c.report_reads_back.ensures.read)
