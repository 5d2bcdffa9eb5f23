use Rattle.std.proofs.Common.{length}
use Rattle.cp_judge.specs.Searching.{AddsMarks, IsMetBefore}
use Rattle.cp_judge.proofs.needs.mark_met.Given as goal

abbrev pub invariant-loop-e : goal.invariant-loop-e
invariant-loop-e l = AddsMarks (IsMetBefore l.points l.list l.e-index l.p) (length l.points) l.initial.marks l.marks
