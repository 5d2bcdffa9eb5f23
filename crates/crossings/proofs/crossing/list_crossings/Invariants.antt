use Rattle.crossings.specs.Crossings.{AreFirstPairs}
use Rattle.crossings.specs.Trying.{CrossesBefore}
use Rattle.crossings.proofs.crossing.list_crossings.Given as goal

abbrev pub invariant-loop-a : goal.invariant-loop-a
invariant-loop-a l = AreFirstPairs (CrossesBefore l.points l.list l.a 0) l.most l.found.items
