use Rattle.std.proofs.Common.{◌≡◌, ◌≤◌, ◌*◌, ℕ, take}
use Rattle.std.specs.List.{sum_by}
use Rattle.price_defs.specs.Loads.{takes}
use Rattle.price_defs.specs.Rows.{weight}
use Rattle.point_rows.specs.Takers.{taken, all_taken}
use Rattle.point_rows.proofs.takers.listed.Given as goal

abbrev pub invariant-loop-row : goal.invariant-loop-row
invariant-loop-row l =
    ((i j : ℕ) → taken l.list.items i j ≡ takes (take l.row-index l.rows) i j) × (all_taken l.list.items ≤ 2 * sum_by weight (take l.row-index l.rows))
