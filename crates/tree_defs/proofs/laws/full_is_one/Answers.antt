use Rattle.tree_defs.proofs.laws.Full.{full_is_one}
use Rattle.tree_defs.proofs.laws.full_is_one.Goals as goal

pub returns : goal.returns
returns c = full_is_one c.args.points.now
