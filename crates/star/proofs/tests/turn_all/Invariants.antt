use Rattle.std.proofs.Common.{◌≡◌}
use Rattle.star.proofs.tests.turn_all.Given as goal

abbrev pub invariant-loop-q : goal.invariant-loop-q
invariant-loop-q l = l.star.points ≡ l.initial.star.points
