use Rattle.dual_prices.specs.Floors.{IsLeastCostBelow}
use Rattle.dual_prices.proofs.floor.least_cost.Given as goal

abbrev pub invariant-loop-r : goal.invariant-loop-r
invariant-loop-r l = IsLeastCostBelow l.points l.costs l.p l.r l.least
