use Rattle.std.proofs.Common.{◌≡◌, ◌<◌, ℕ, slice_index_or}
use Rattle.plane.specs.declared.segment.Pair.{Pair}
use Rattle.partition_defs.specs.Partition.{HasEnds}
use Rattle.triangulation_check.proofs.joined.is_joined.Given as goal

abbrev pub invariant-loop-e : goal.invariant-loop-e
invariant-loop-e l = (k : ℕ) (e : Pair) → k < l.e-index → slice_index_or l.list k e ≡ e → ¬ ((q : ℕ) × HasEnds e l.p q)
