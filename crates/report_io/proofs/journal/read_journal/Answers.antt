use Rattle.std.proofs.Common.{Err}
use Rattle.serde_json.specs.View.{view}
use Rattle.solution_io.specs.declared.fault.SolutionFault.TheVariants as named
use Rattle.report_io.specs.declared.faults.CertLine.TheVariants as cert
use Rattle.report_io.specs.declared.faults.JournalLine.TheVariants as journal
use Rattle.report_io.specs.declared.faults.ReportFault.TheVariants as at
use Rattle.report_io.specs.Answers.{tell_journal}
use Rattle.report_io.specs.Reading.{line, journal_in}
use Rattle.report_io.proofs.Steps.{stops, goes_on}
use Rattle.report_io.proofs.journal.read_journal.Goals as goal

pub returns-in-Ok : goal.returns-in-Ok
returns-in-Ok c =
    goes_on view tell_journal (line (at.Journal journal.NotJson) c.args.bytes.now) (journal_in c.args.n) c.in-Ok.value c.journal_of.result c.in-Ok.ensures c.journal_of.ensures

pub returns-in-Err : goal.returns-in-Err
returns-in-Err c = stops view tell_journal (line (at.Journal journal.NotJson) c.args.bytes.now) (journal_in c.args.n) c.in-Err.fault c.in-Err.ensures
