use Rattle.directions.specs.Listing.{AreClearBefore}
use Rattle.directions.proofs.clear.clear_pairs.Given as goal

abbrev pub invariant-loop-i : goal.invariant-loop-i
invariant-loop-i l = AreClearBefore l.points l.i 0 l.list.items
