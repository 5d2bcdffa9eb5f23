use Rattle.serde_json.specs.View.{view}
use Rattle.report_io.proofs.JournalSteps.{start_of-other}
use Rattle.report_io.proofs.journal.start_of.Goals as goal

pub returns-else-items-eq2 : goal.returns-else-items-eq2
returns-else-items-eq2 c = start_of-other c.args.n (view c.args.item.now) c.in_ok-items.items.now c.in_ok-items.ensures c.if-items-eq2.false
