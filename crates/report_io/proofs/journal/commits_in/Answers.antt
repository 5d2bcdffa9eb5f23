use Rattle.std.proofs.Common.{map, length}
use Rattle.serde_json.specs.View.{view}
use Rattle.report_io.specs.declared.faults.JournalLine.TheVariants as journal
use Rattle.report_io.specs.declared.faults.ReportFault.TheVariants as at
use Rattle.report_io.specs.Answers.{tell_commits}
use Rattle.report_io.specs.Reading.{commit_items}
use Rattle.report_io.proofs.Steps.{or_answer}
use Rattle.report_io.proofs.JournalSteps.{commit_items-many}
use Rattle.report_io.proofs.journal.commits_in.Goals as goal

pub returns-then-items-gt-MOST_COMMITS : goal.returns-then-items-gt-MOST_COMMITS
returns-then-items-gt-MOST_COMMITS c =
    or_answer tell_commits (commit_items c.args.n (map view c.args.items.now)) (at.Journal (journal.TooManyCommits (length c.args.items.now))) c.too_many_commits.result tt
    (commit_items-many c.args.n c.args.items.now c.if-items-gt-MOST_COMMITS.true) c.too_many_commits.ensures
