use Rattle.std.proofs.Common.{[], ◌∷◌, ◌≤◌, cond, length, take}
use Rattle.tree_defs.specs.Trees.{root}
use Rattle.tree_defs.specs.Walks.{Leads, met}
use Rattle.branch_tree.specs.Paths.{wanted}
use Rattle.branch_tree.specs.Values.{IsLeastOf}
use Rattle.branch_tree.proofs.checking.walk.Given as goal

abbrev pub invariant-loop-k : goal.invariant-loop-k
invariant-loop-k l = record {
  leads : Leads l.points l.costs (root ∷ []) (take l.k l.tree) (cond l.is_open (wanted l.path.items) []);
  least : IsLeastOf l.points l.costs l.base (met (root ∷ []) (take l.k l.tree)) l.least;
  short : length l.path.items ≤ l.k;
}
