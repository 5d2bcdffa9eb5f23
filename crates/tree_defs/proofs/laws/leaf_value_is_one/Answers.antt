use Rattle.tree_defs.proofs.laws.Values.{leaf_value_once}
use Rattle.tree_defs.proofs.laws.leaf_value_is_one.Goals as goal

pub returns : goal.returns
returns c = leaf_value_once c.args.points.now
