use Rattle.std.proofs.Common.{◌≡◌, ◌<◌, ℕ, slice_index_or}
use Rattle.plane.specs.declared.segment.Pair.{Pair}
use Rattle.plane.specs.Geometry.{AreCrossing}
use Rattle.tree_defs.proofs.plain.crosses_some.Given as goal

abbrev pub invariant-loop-f : goal.invariant-loop-f
invariant-loop-f l = (k : ℕ) (f : Pair) → k < l.f-index → slice_index_or l.list k f ≡ f → ¬ AreCrossing l.points l.e.lo l.e.hi f.lo f.hi
