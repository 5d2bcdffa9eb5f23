use Rattle.std.proofs.Common.{◌<◌, ◌*◌, ℕ, length}
use Rattle.crossings.specs.Crossings.{CrossesLater}
use Rattle.crossings.specs.Segments.{segment}
use Rattle.crossings.proofs.blocks.may_cross.Given as goal

abbrev pub invariant-loop-g : goal.invariant-loop-g
invariant-loop-g l = (k : ℕ) → k < 256 * l.g → k < length l.segments → ¬ CrossesLater l.points l.list l.z.place (segment l.segments k).place
