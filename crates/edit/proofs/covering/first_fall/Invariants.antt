use Rattle.edit.specs.Plans.{RisesBelow}
use Rattle.edit.proofs.covering.first_fall.Given as goal

abbrev pub invariant-loop-k : goal.invariant-loop-k
invariant-loop-k l = RisesBelow l.claims l.k
