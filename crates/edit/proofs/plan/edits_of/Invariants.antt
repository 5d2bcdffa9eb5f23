use Rattle.std.proofs.Common.{◌≡◌, take}
use Rattle.edit.proofs.plan.edits_of.Given as goal

abbrev pub invariant-loop-e : goal.invariant-loop-e
invariant-loop-e l = l.list.items ≡ take l.e-index l.edits
