use Rattle.subdivision.specs.Listing.{HasRows}
use Rattle.subdivision.proofs.listing.listed.Given as goal

abbrev pub invariant-loop-v : goal.invariant-loop-v
invariant-loop-v l = HasRows l.kept_only l.stars l.list.items l.v
