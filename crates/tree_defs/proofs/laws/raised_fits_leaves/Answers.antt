use Rattle.tree_defs.proofs.laws.Raised.{raised_prices}
use Rattle.tree_defs.proofs.laws.raised_fits_leaves.Goals as goal

pub returns : goal.returns
returns c = λ D q rows s few cheap raised. raised_prices c.args.points.now D q rows s c.len-count.ensures.accepted few cheap raised
