use Rattle.std.proofs.Common.{map, length}
use Rattle.serde_json.specs.View.{view}
use Rattle.report_io.specs.declared.faults.JournalLine.TheVariants as journal
use Rattle.report_io.specs.declared.faults.ReportFault.TheVariants as at
use Rattle.report_io.specs.Answers.{tell_pairs}
use Rattle.report_io.specs.Reading.{start_pairs}
use Rattle.report_io.proofs.Steps.{or_answer}
use Rattle.report_io.proofs.JournalSteps.{start_pairs-many}
use Rattle.report_io.proofs.journal.start_in.Goals as goal

pub returns-then-items-gt-MOST_START : goal.returns-then-items-gt-MOST_START
returns-then-items-gt-MOST_START c =
    or_answer tell_pairs (start_pairs c.args.n (map view c.args.items.now)) (at.Journal (journal.TooManyStart (length c.args.items.now))) c.too_many_start.result tt
    (start_pairs-many c.args.n c.args.items.now c.if-items-gt-MOST_START.true) c.too_many_start.ensures
