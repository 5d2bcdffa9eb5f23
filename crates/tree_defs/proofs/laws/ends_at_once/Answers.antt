use Rattle.plane.specs.Accepted.{AreAccepted}
use Rattle.tree_defs.proofs.laws.OneNode.{ends_at_once}
use Rattle.tree_defs.proofs.laws.ends_at_once.Goals as goal

pub returns : goal.returns
returns c = ends_at_once c.args.points.now (let a : AreAccepted c.args.points.now = c.len-count.ensures.accepted in a.count.0)
