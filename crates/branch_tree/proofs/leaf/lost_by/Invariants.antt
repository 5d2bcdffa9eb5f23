use Rattle.std.proofs.Common.{◌≡◌, take}
use Rattle.std.specs.List.{sum_by}
use Rattle.price_defs.specs.Loads.{lost}
use Rattle.branch_tree.proofs.leaf.lost_by.Given as goal

abbrev pub invariant-loop-row : goal.invariant-loop-row
invariant-loop-row l = l.sum ≡ sum_by lost (take l.row-index l.rows)
