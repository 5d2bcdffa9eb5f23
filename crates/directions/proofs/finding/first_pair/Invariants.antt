use Rattle.directions.proofs.Found.{NoneBefore}
use Rattle.directions.proofs.finding.first_pair.Given as goal

abbrev pub invariant-loop-q : goal.invariant-loop-q
invariant-loop-q l = NoneBefore l.points l.p l.q
