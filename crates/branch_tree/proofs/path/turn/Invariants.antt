use Rattle.std.proofs.Common.{vec_len, ◌≡◌, ◌≤◌, [], length}
use Rattle.tree_defs.specs.Trees.{root}
use Rattle.branch_tree.specs.Paths.{pending}
use Rattle.branch_tree.proofs.path.turn.Given as goal

abbrev pub decreases-loop-path : goal.decreases-loop-path
decreases-loop-path l = vec_len l.path

abbrev pub invariant-loop-path : goal.invariant-loop-path
invariant-loop-path l = record {
  same : pending root [] l.path.items ≡ pending root [] l.initial.path.items;
  shorter : length l.path.items ≤ length l.initial.path.items;
}
