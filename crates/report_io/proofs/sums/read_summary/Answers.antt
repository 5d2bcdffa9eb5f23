use Rattle.std.proofs.Common.{Err}
use Rattle.serde_json.specs.View.{view}
use Rattle.report_io.specs.declared.summary.Summary.{Summary}
use Rattle.report_io.specs.declared.faults.SummaryLine.TheVariants as sums
use Rattle.report_io.specs.declared.faults.ReportFault.TheVariants as at
use Rattle.report_io.specs.Answers.{itself}
use Rattle.report_io.specs.Reading.{line, summary_in}
use Rattle.report_io.proofs.Steps.{stops, goes_on}
use Rattle.report_io.proofs.sums.read_summary.Goals as goal

pub returns-in-Ok : goal.returns-in-Ok
returns-in-Ok c =
    goes_on view (itself {A = Summary}) (line (at.Summary sums.NotJson) c.args.bytes.now) summary_in c.in-Ok.value c.summary_of.result c.in-Ok.ensures c.summary_of.ensures

pub returns-in-Err : goal.returns-in-Err
returns-in-Err c = stops view (itself {A = Summary}) (line (at.Summary sums.NotJson) c.args.bytes.now) summary_in c.in-Err.fault c.in-Err.ensures
