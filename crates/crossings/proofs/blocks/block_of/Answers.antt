use Rattle.std.proofs.Common.{◌≤◌, ℕ, below_more}
use Rattle.crossings.specs.Segments.{segment, HasSegment}
use Rattle.crossings.proofs.blocks.block_of.Goals as goal

pub loop-k-preserved : goal.loop-k-preserved
loop-k-preserved c = record {
  near = c.with-block.ensures.near;
  has = λ k low l.
      below_more (λ (j : ℕ). c.args.from ≤ j → HasSegment c.with-block.result (segment c.args.segments.now j)) c.loop-k.k
      (λ j m low. c.with-block.ensures.kept (segment c.args.segments.now j) (c.loop-k.invariant.has j low m)) (λ _. c.with-block.ensures.has) k l low;
}
