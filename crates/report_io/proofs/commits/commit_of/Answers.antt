use Rattle.serde_json.specs.View.{view}
use Rattle.report_io.proofs.OtherLengths.{commit_of-other}
use Rattle.report_io.proofs.commits.commit_of.Goals as goal

pub returns-then-items-ne3 : goal.returns-then-items-ne3
returns-then-items-ne3 c = commit_of-other c.args.n (view c.args.item.now) c.in_ok-items.items.now c.in_ok-items.ensures c.if-items-ne3.true
