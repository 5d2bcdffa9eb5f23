use Rattle.cp_judge.proofs.Gathered.{AreEndsBefore}
use Rattle.cp_judge.proofs.ends.gather_ends.Given as goal

abbrev pub invariant-loop-e : goal.invariant-loop-e
invariant-loop-e l = AreEndsBefore l.list l.e-index l.p l.ends.items
