use Rattle.given_sums.specs.Sums.{IsColumn}
use Rattle.given_sums.proofs.adding.add_before.Given as goal

abbrev pub invariant-loop-a : goal.invariant-loop-a
invariant-loop-a l = IsColumn l.points l.row l.p l.first l.width l.b l.a l.initial.sums l.sums
