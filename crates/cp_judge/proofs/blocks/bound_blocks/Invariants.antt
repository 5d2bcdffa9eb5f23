use Rattle.cp_judge.specs.Blocks.{AreBoundedBelow}
use Rattle.cp_judge.proofs.blocks.bound_blocks.Given as goal

abbrev pub invariant-loop-i : goal.invariant-loop-i
invariant-loop-i l = AreBoundedBelow l.size l.places l.bounds l.i
