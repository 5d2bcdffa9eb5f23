use Rattle.directions.specs.Listing.{AreClearBefore}
use Rattle.directions.proofs.clear.add_clear_from.Given as goal

abbrev pub invariant-loop-j : goal.invariant-loop-j
invariant-loop-j l = AreClearBefore l.set l.i l.j l.list.items
