use Rattle.plane.specs.Accepted.{AreAccepted}
use Rattle.tree_defs.proofs.laws.AllMet.{met_is_partition}
use Rattle.tree_defs.proofs.laws.met_is_partition.Goals as goal

pub returns : goal.returns
returns c = met_is_partition c.args.points.now (let a : AreAccepted c.args.points.now = c.len-count.ensures.accepted in a.count.0)
