use Rattle.plane.specs.Accepted.{AreAccepted}
use Rattle.tree_defs.proofs.laws.Bound.{tree_bound}
use Rattle.tree_defs.proofs.laws.tree_bound.Goals as goal

pub returns : goal.returns
returns c = tree_bound c.args.points.now (let a : AreAccepted c.args.points.now = c.len-count.ensures.accepted in a.count.0)
