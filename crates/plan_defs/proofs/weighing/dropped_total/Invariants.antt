use Rattle.std.proofs.Common.{◌≡◌, ◌≤◌, ◌*◌, take}
use Rattle.std.specs.List.{sum_by}
use Rattle.plan_defs.specs.Plans.{dropped_cost}
use Rattle.plan_defs.proofs.weighing.dropped_total.Given as goal

abbrev pub invariant-loop-e : goal.invariant-loop-e
invariant-loop-e l = record { sum : l.sum ≡ sum_by (dropped_cost l.costs) (take l.e-index l.edits); small : l.sum ≤ l.e-index * 1000 }
