use Rattle.std.proofs.Common.{◌≤◌, length, take}
use Rattle.tree_defs.specs.Leaves.{IsFreePart}
use Rattle.branch_tree.proofs.leaf.free_part.Given as goal

abbrev pub invariant-loop-e : goal.invariant-loop-e
invariant-loop-e l = record { part : IsFreePart l.points (take l.e-index l.taken) l.free.items; few : length l.free.items ≤ l.e-index }
