use Rattle.std.proofs.Common.{◌≡◌}
use Rattle.star.proofs.tests.needs.faults.Given as goal

abbrev pub invariant-loop-step : goal.invariant-loop-step
invariant-loop-step l = l.points ≡ l.star.points
