use Rattle.std.proofs.Common.{◌≡◌, ◌≤◌, ◌++◌, take, length}
use Rattle.tree_defs.specs.Trees.{root}
use Rattle.branch_tree.specs.Paths.{side, sets_of}
use Rattle.branch_tree.proofs.path.side_of.Given as goal

abbrev pub invariant-loop-k : goal.invariant-loop-k
invariant-loop-k l = (l.k ≤ length l.path) × (side l.barred (sets_of root l.path) ≡ l.list.items ++ side l.barred (sets_of root (take l.k l.path)))

abbrev pub decreases-loop-k : goal.decreases-loop-k
decreases-loop-k l = l.k
