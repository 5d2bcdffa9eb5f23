use Rattle.std.proofs.Common.{◌≡◌, ◌≢◌, ◌++◌}
use Rattle.std.specs.List.{slice_range, AllByRecursion}
use Rattle.round_plans.specs.Listed.{marked, names}
use Rattle.round_plans.proofs.listing.push_between.Given as goal

abbrev pub invariant-loop-j : goal.invariant-loop-j
invariant-loop-j l = record {
  names : l.out.items ≡ l.fn.out.items ++ names (marked l.kept (slice_range l.star.list l.k l.j));
  apart : AllByRecursion (λ q. l.star.centre ≢ q) l.out.items;
}
