use Rattle.std.proofs.Common.{◌≡◌, ◌≤◌, ◌*◌, take}
use Rattle.cost_defs.specs.Costs.{total}
use Rattle.branch_tree.proofs.leaf.cost_of.Given as goal

abbrev pub invariant-loop-e : goal.invariant-loop-e
invariant-loop-e l = record { sum : l.sum ≡ total l.costs (take l.e-index l.list); small : l.sum ≤ l.e-index * 1000 }
