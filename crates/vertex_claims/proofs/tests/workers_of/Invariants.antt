use Rattle.std.proofs.Common.{◌≡◌, ◌<◌, [], All, length}
use Rattle.vertex_claims.specs.Holding.{IsIdle}
use Rattle.vertex_claims.specs.Trial.{IsAtWork}
use Rattle.vertex_claims.proofs.tests.workers_of.Given as goal

abbrev pub invariant-loop-holder : goal.invariant-loop-holder
invariant-loop-holder l = (l.low < 3) × All (IsIdle l.claims) l.holders.items × All (λ h. (h.wins ≡ []) × (h.misses ≡ [])) l.holders.items × All (λ w. IsAtWork l.claims w.holder w.low w.high w.wins w.misses) l.workers.items

abbrev pub decreases-loop-holder : goal.decreases-loop-holder
decreases-loop-holder l = length l.holders.items
