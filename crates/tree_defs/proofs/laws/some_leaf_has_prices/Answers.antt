use Rattle.tree_defs.proofs.laws.Bound.{some_leaf_has_prices}
use Rattle.tree_defs.proofs.laws.some_leaf_has_prices.Goals as goal

pub returns : goal.returns
returns c = some_leaf_has_prices c.args.points.now
