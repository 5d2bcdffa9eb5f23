use Rattle.serde_json.specs.View.{view}
use Rattle.report_io.proofs.OtherLengths.{edit_of-other}
use Rattle.report_io.proofs.edits.edit_of.Goals as goal

pub returns-else-items-eq5 : goal.returns-else-items-eq5
returns-else-items-eq5 c = edit_of-other c.args.n (view c.args.value.now) c.in_ok-items.items.now c.in_ok-items.ensures c.if-items-eq3.false c.if-items-eq5.false
