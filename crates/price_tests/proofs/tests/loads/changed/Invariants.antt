use Rattle.std.proofs.Common.{◌≡◌}
use Rattle.price_tests.proofs.tests.loads.changed.Given as goal

abbrev pub invariant-loop-step : goal.invariant-loop-step
invariant-loop-step g l = l.points ≡ l.loads.points
