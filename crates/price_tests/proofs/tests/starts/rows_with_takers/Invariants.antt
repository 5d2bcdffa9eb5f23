use Rattle.std.proofs.Common.{◌≤◌, ◌*◌}
use Rattle.std.specs.List.{sum_by}
use Rattle.price_defs.specs.Loads.{lost}
use Rattle.price_defs.specs.Tight.{AreCovered}
use Rattle.price_tests.proofs.tests.starts.rows_with_takers.Given as goal

abbrev pub invariant-loop-k : goal.invariant-loop-k
invariant-loop-k l = AreCovered l.points l.rows.items × (sum_by lost l.rows.items ≤ 9 * l.k)
