use Rattle.std.proofs.Common.{◌<◌, ℕ}
use Rattle.star.specs.Turn.{IsInDirection}
use Rattle.star.specs.Stars.{entry}
use Rattle.edit.proofs.tests.round.is_free.Given as goal

abbrev pub invariant-loop-k : goal.invariant-loop-k
invariant-loop-k l = (k : ℕ) → k < l.k → ¬ IsInDirection l.star.points l.star.centre (entry l.star.list k).0 l.q
