use Rattle.dual_prices.proofs.Floors.{unit_least}
use Rattle.dual_prices.proofs.floor.unit_cost.Goals as goal

pub returns-clause-least : goal.returns-clause-least
returns-clause-least c = unit_least c.args.points.now c.args.costs.now c.args.p c.len-count.ensures.accepted c.requires.p_in c.requires.none
