use Rattle.std.proofs.Common.{◌≡◌, ◌<◌, ℕ, slice_index_or, length}
use Rattle.plane.specs.declared.segment.Pair.{Pair}
use Rattle.partition_defs.proofs.are_within.Given as goal

abbrev pub invariant-loop-e : goal.invariant-loop-e
invariant-loop-e l = (k : ℕ) (e : Pair) → k < l.e-index → slice_index_or l.list k e ≡ e → e.hi < length l.points
