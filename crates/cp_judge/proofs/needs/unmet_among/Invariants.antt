use Rattle.std.proofs.Common.{◌<◌, ℕ, get_or}
use Rattle.cp_judge.specs.Ends.{IsMetAmong}
use Rattle.cp_judge.proofs.needs.unmet_among.Given as goal

abbrev pub invariant-loop-q : goal.invariant-loop-q
invariant-loop-q l = (k : ℕ) → k < l.q-index → IsMetAmong l.points l.ends l.p (get_or l.ends k 0)
