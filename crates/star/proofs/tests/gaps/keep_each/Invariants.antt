use Rattle.std.proofs.Common.{◌≡◌}
use Rattle.star.proofs.tests.gaps.keep_each.Given as goal

abbrev pub invariant-loop-q : goal.invariant-loop-q
invariant-loop-q l = l.star.points ≡ l.initial.star.points
