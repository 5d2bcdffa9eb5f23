use Rattle.std.proofs.Common.{◌≡◌, take}
use Rattle.rewind.proofs.keeping.set_of.Given as goal

abbrev pub invariant-loop-e : goal.invariant-loop-e
invariant-loop-e l = l.kept.keys ≡ take l.e-index l.list
