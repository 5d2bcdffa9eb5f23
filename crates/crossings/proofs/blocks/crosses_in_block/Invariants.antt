use Rattle.std.proofs.Common.{◌<◌, ◌≤◌, ◌*◌, ℕ}
use Rattle.crossings.specs.Crossings.{CrossesLater}
use Rattle.crossings.specs.Segments.{segment}
use Rattle.crossings.proofs.blocks.crosses_in_block.Given as goal

abbrev pub invariant-loop-k : goal.invariant-loop-k
invariant-loop-k l = (k : ℕ) → 16 * l.i ≤ k → k < l.k → ¬ CrossesLater l.points l.list l.a (segment l.segments k).place
