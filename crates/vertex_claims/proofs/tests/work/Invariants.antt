use Rattle.vertex_claims.specs.Trial.{IsAtWork}
use Rattle.vertex_claims.proofs.tests.work.Given as goal

abbrev pub invariant-loop-turn : goal.invariant-loop-turn
invariant-loop-turn l = IsAtWork l.claims l.worker.holder l.worker.low l.worker.high l.worker.wins l.worker.misses
