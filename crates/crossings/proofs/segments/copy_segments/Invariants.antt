use Rattle.std.proofs.Common.{◌≡◌, ◌<◌, ℕ}
use Rattle.crossings.specs.Segments.{segment, IsSegment}
use Rattle.crossings.proofs.segments.copy_segments.Given as goal

abbrev pub invariant-loop-place : goal.invariant-loop-place
invariant-loop-place l = (k : ℕ) → k < l.place → IsSegment l.points l.list (segment l.segments k) × ((segment l.segments k).place ≡ k)
