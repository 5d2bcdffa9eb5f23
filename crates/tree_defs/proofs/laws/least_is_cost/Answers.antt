use Rattle.plane.specs.Accepted.{AreAccepted}
use Rattle.tree_defs.proofs.laws.Bound.{least_is_cost}
use Rattle.tree_defs.proofs.laws.least_is_cost.Goals as goal

pub returns : goal.returns
returns c = least_is_cost c.args.points.now (let a : AreAccepted c.args.points.now = c.len-count.ensures.accepted in a.count.0)
