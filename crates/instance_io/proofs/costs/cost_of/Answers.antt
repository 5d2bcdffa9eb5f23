use Rattle.instance_io.proofs.CostItems.{cost_of-not_three}
use Rattle.serde_json.specs.View.{view}
use Rattle.instance_io.proofs.costs.cost_of.Goals as goal

pub returns-then-items-ne3 : goal.returns-then-items-ne3
returns-then-items-ne3 c = cost_of-not_three c.args.n (view c.args.item.now) c.in_ok-items.items.now c.in_ok-items.ensures c.if-items-ne3.true
