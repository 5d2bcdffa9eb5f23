use Rattle.std.proofs.Common.{◌<◌, ℕ, get_or}
use Rattle.cp_judge.specs.Ends.{IsMetAmong}
use Rattle.cp_judge.proofs.turning.is_met_round.Given as goal

abbrev pub invariant-loop-k : goal.invariant-loop-k
invariant-loop-k l = (k : ℕ) → k < l.k → IsMetAmong l.points l.run l.p (get_or l.run k 0)
