use Rattle.cert_check.specs.BorderCosts.{AreSteps}
use Rattle.cert_check.proofs.border_cost.border_cost.Given as goal

abbrev pub invariant-loop-v : goal.invariant-loop-v
invariant-loop-v l = AreSteps l.points l.costs l.v l.sum
