use Rattle.std.specs.List.Sorted.{IsPermutation}
use Rattle.cp_judge.proofs.blocks.arrange.Given as goal

abbrev pub invariant-loop-i : goal.invariant-loop-i
invariant-loop-i l = IsPermutation l.fn.places l.places
