use Rattle.std.proofs.Common.{◌≡◌, take}
use Rattle.std.specs.List.{sum_by}
use Rattle.price_defs.specs.Loads.{added}
use Rattle.branch_tree.proofs.leaf.added_by.Given as goal

abbrev pub invariant-loop-row : goal.invariant-loop-row
invariant-loop-row l = l.sum ≡ sum_by added (take l.row-index l.rows)
