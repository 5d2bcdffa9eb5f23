use Rattle.std.proofs.Common.{All, length}
use Rattle.vertex_claims.specs.Holding.{IsIdle}
use Rattle.vertex_claims.specs.Trial.{IsAtWork}
use Rattle.vertex_claims.proofs.tests.holders_of.Given as goal

abbrev pub invariant-loop-worker : goal.invariant-loop-worker
invariant-loop-worker l = All (IsIdle l.claims) l.holders.items × All (λ w. IsAtWork l.claims w.holder w.low w.high w.wins w.misses) l.workers.items

abbrev pub decreases-loop-worker : goal.decreases-loop-worker
decreases-loop-worker l = length l.workers.items
