use Rattle.std.proofs.Common.{◌≡◌, ◌≤◌, ◌*◌, take}
use Rattle.cost_defs.specs.Costs.{total}
use Rattle.cost_defs.proofs.costs.Costs.total.Given as goal

abbrev pub invariant-loop-e : goal.invariant-loop-e
invariant-loop-e l = record { sum : l.sum ≡ total l.self (take l.e-index l.pairs); small : l.sum ≤ l.e-index * 1000 }
