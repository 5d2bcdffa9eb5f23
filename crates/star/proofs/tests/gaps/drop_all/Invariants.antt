use Rattle.std.proofs.Common.{◌≡◌}
use Rattle.star.proofs.tests.gaps.drop_all.Given as goal

abbrev pub invariant-loop-k : goal.invariant-loop-k
invariant-loop-k l = l.points ≡ l.star.points
