use Rattle.std.proofs.Common.{length}
use Rattle.border.specs.Chain.{seen_at, IsOpen}
use Rattle.border.proofs.chain.shorten.Given as goal

abbrev pub invariant-loop-chain : goal.invariant-loop-chain
invariant-loop-chain l = IsOpen (seen_at l.points l.forward l.order) l.k l.chain.items

abbrev pub decreases-loop-chain : goal.decreases-loop-chain
decreases-loop-chain l = length l.chain.items
