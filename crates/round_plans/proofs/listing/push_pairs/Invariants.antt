use Rattle.std.proofs.Common.{◌≡◌, ◌++◌, take}
use Rattle.round_defs.specs.Candidates.{pairs_at}
use Rattle.round_plans.specs.Listed.{marked}
use Rattle.round_plans.proofs.listing.push_pairs.Given as goal

abbrev pub invariant-loop-j : goal.invariant-loop-j
invariant-loop-j l = l.out.items ≡ l.fn.out.items ++ pairs_at l.star.centre (marked l.kept (take l.j l.star.list))
