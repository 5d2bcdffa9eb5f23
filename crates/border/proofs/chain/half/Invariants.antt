use Rattle.border.specs.Chain.{seen_at, IsChain}
use Rattle.border.proofs.chain.half.Given as goal

abbrev pub invariant-loop-k : goal.invariant-loop-k
invariant-loop-k l = IsChain (seen_at l.points l.forward l.order) l.k l.chain.items
