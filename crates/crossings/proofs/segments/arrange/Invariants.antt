use Rattle.std.specs.List.Sorted.{IsPermutation}
use Rattle.crossings.proofs.segments.arrange.Given as goal

abbrev pub invariant-loop-i : goal.invariant-loop-i
invariant-loop-i l = IsPermutation l.fn.segments l.segments
