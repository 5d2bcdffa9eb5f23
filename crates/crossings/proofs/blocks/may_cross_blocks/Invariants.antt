use Rattle.std.proofs.Common.{◌<◌, ◌≤◌, ◌*◌, ℕ, length}
use Rattle.crossings.specs.Crossings.{CrossesLater}
use Rattle.crossings.specs.Segments.{segment}
use Rattle.crossings.proofs.blocks.may_cross_blocks.Given as goal

abbrev pub invariant-loop-i : goal.invariant-loop-i
invariant-loop-i l = (k : ℕ) → 256 * l.g ≤ k → k < 16 * l.i → k < length l.segments → ¬ CrossesLater l.points l.list l.z.place (segment l.segments k).place
