use Rattle.std.proofs.Common.{◌<◌, ◌≤◌, ℕ}
use Rattle.crossings.specs.Segments.{segment, HasNearBoxes, HasSegment}
use Rattle.crossings.proofs.blocks.block_of.Given as goal

abbrev pub invariant-loop-k : goal.invariant-loop-k
invariant-loop-k l = record {
  near : HasNearBoxes l.block;
  has : (k : ℕ) → l.from ≤ k → k < l.k → HasSegment l.block (segment l.segments k);
}
