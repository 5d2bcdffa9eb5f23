use Rattle.dual_prices.proofs.Tables.{tri_half}
use Rattle.dual_prices.proofs.loads.pairs_of.Goals as goal

pub returns : goal.returns
returns c = tri_half c.args.n
