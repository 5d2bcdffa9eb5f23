use Rattle.std.proofs.Common.{◌≡◌, ◌≤◌, ◌*◌, take}
use Rattle.std.specs.List.{sum_by}
use Rattle.plan_defs.specs.Plans.{kept_cost}
use Rattle.plan_defs.proofs.weighing.kept_total.Given as goal

abbrev pub invariant-loop-e : goal.invariant-loop-e
invariant-loop-e l = record { sum : l.sum ≡ sum_by (kept_cost l.costs) (take l.e-index l.edits); small : l.sum ≤ l.e-index * 1000 }
