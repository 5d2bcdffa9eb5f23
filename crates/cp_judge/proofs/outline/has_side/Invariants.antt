use Rattle.std.proofs.Common.{◌<◌, ℕ, slice_index, pos, ◌<ℤ◌}
use Rattle.plane.specs.Geometry.{orientation}
use Rattle.cp_judge.specs.Chains.{sided}
use Rattle.cp_judge.proofs.outline.has_side.Given as goal

abbrev pub invariant-loop-k : goal.invariant-loop-k
invariant-loop-k l = (k : ℕ) → l.a < k → k < l.k → pos 0 <ℤ sided l.side (orientation l.points (slice_index l.order l.a) (slice_index l.order l.b) (slice_index l.order k))
