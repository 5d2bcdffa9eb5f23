use Rattle.std.proofs.Common.{ℕ, ◌<◌}
use Rattle.star.specs.Stars.{entry}
use Rattle.planner.specs.Agreeing.{AgreesWith}
use Rattle.planner.proofs.agreeing.agrees_at.Given as goal

abbrev pub invariant-loop-k : goal.invariant-loop-k
invariant-loop-k l = (j : ℕ) → j < l.k → AgreesWith l.points l.region l.star (entry l.star.list j)
