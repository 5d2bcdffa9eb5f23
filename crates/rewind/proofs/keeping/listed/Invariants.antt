use Rattle.std.proofs.Common.{◌≡◌, ◌++◌}
use Rattle.rewind.proofs.keeping.listed.Given as goal

abbrev pub invariant-loop-e : goal.invariant-loop-e
invariant-loop-e l = l.list.items ++ l.e-iterator ≡ l.kept.keys
