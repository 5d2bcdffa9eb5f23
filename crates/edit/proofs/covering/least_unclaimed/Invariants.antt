use Rattle.std.proofs.Common.{take}
use Rattle.edit.specs.Plans.{IsLeastUnclaimed, are_touching}
use Rattle.edit.proofs.covering.least_unclaimed.Given as goal

abbrev pub invariant-loop-e : goal.invariant-loop-e
invariant-loop-e l = IsLeastUnclaimed (are_touching (take l.e-index l.edits)) l.claims l.least
