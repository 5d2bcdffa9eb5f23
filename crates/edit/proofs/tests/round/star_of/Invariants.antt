use Rattle.std.proofs.Common.{◌≡◌}
use Rattle.star.specs.Stars.{IsStar}
use Rattle.edit.proofs.tests.round.star_of.Given as goal

abbrev pub invariant-loop-w : goal.invariant-loop-w
invariant-loop-w l = (l.points ≡ l.star.points) × (l.star.centre ≡ l.v) × IsStar l.star
