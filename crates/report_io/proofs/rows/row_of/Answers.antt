use Rattle.serde_json.specs.View.{view}
use Rattle.report_io.proofs.OtherLengths.{row_of-other}
use Rattle.report_io.proofs.rows.row_of.Goals as goal

pub returns-else-items-eq6 : goal.returns-else-items-eq6
returns-else-items-eq6 c = row_of-other c.args.n (view c.args.value.now) c.in_ok-items.items.now c.in_ok-items.ensures c.if-items-eq3.false c.if-items-eq4.false c.if-items-eq6.false
