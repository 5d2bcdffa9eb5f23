use Rattle.std.proofs.Common.{◌*◌, take, pos, neg_ℤ, ◌≤ℤ◌}
use Rattle.branch_tree.specs.Values.{IsLoadSum}
use Rattle.branch_tree.proofs.leaf.loads_of.Given as goal

abbrev pub invariant-loop-e : goal.invariant-loop-e
invariant-loop-e l = record {
  sum : IsLoadSum l.points l.rows (take l.e-index l.list) l.sum;
  low : neg_ℤ (pos (100000000000 * l.e-index)) ≤ℤ l.sum;
  high : l.sum ≤ℤ pos (100000000000 * l.e-index);
}
