use Rattle.std.proofs.Common.{◌≡◌}
use Rattle.directions.proofs.tests.are_found.Given as goal

abbrev pub invariant-loop-p : goal.invariant-loop-p
invariant-loop-p g l = l.fans ≡ l.points
