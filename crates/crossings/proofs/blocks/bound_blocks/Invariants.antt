use Rattle.crossings.specs.Segments.{AreBoundedBelow}
use Rattle.crossings.proofs.blocks.bound_blocks.Given as goal

abbrev pub invariant-loop-i : goal.invariant-loop-i
invariant-loop-i l = AreBoundedBelow l.size l.segments l.blocks l.i
