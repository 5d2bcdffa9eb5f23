use Rattle.given_sums.specs.Sums.{IsLine}
use Rattle.given_sums.proofs.adding.add_after.Given as goal

abbrev pub invariant-loop-b : goal.invariant-loop-b
invariant-loop-b l = IsLine l.points l.row l.p l.first l.width l.a l.b l.initial.sums l.sums
