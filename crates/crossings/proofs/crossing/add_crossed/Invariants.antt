use Rattle.crossings.specs.Crossings.{AreFirstPairs}
use Rattle.crossings.specs.Trying.{CrossesBefore}
use Rattle.crossings.proofs.crossing.add_crossed.Given as goal

abbrev pub invariant-loop-b : goal.invariant-loop-b
invariant-loop-b l = AreFirstPairs (CrossesBefore l.points l.list l.a l.b) l.most l.found.items
