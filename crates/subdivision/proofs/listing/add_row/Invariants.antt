use Rattle.subdivision.specs.Listing.{HasRow}
use Rattle.subdivision.proofs.listing.add_row.Given as goal

abbrev pub invariant-loop-k : goal.invariant-loop-k
invariant-loop-k l = HasRow l.kept_only l.initial.list.items l.list.items l.star.centre l.star l.k
