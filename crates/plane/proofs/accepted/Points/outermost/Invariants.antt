use Rattle.plane.proofs.Outermost.{IsOutermost}
use Rattle.plane.proofs.accepted.Points.outermost.Given as goal

abbrev pub invariant-loop-r : goal.invariant-loop-r
invariant-loop-r l = IsOutermost l.self l.side l.v l.start l.best l.r
