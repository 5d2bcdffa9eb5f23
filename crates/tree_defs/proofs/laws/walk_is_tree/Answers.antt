use Rattle.tree_defs.proofs.laws.Walks.{walk_is_tree}
use Rattle.tree_defs.proofs.laws.walk_is_tree.Goals as goal

pub returns : goal.returns
returns c = walk_is_tree c.args.points.now
