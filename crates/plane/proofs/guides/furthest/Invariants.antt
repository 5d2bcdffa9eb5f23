use Rattle.plane.proofs.Furthest.{IsBest}
use Rattle.plane.proofs.guides.furthest.Given as goal

abbrev pub invariant-loop-k : goal.invariant-loop-k
invariant-loop-k l = IsBest l.list l.direction l.best l.k
