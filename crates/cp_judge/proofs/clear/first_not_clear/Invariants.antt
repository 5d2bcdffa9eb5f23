use Rattle.std.proofs.Common.{◌≡◌, ◌<◌, ℕ, slice_index_or}
use Rattle.plane.specs.declared.segment.Pair.{Pair}
use Rattle.plane.specs.Geometry.{IsClear}
use Rattle.cp_judge.proofs.clear.first_not_clear.Given as goal

abbrev pub invariant-loop-e : goal.invariant-loop-e
invariant-loop-e l = (k : ℕ) (e : Pair) → k < l.e-index → slice_index_or l.list k e ≡ e → IsClear l.points e.lo e.hi
