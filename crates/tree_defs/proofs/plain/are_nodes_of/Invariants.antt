use Rattle.std.proofs.Common.{◌≡◌, ◌<◌, ℕ, slice_index_or}
use Rattle.tree_defs.specs.declared.node.Node.{Node}
use Rattle.tree_defs.specs.Conditions.{IsNodeOf}
use Rattle.tree_defs.proofs.plain.are_nodes_of.Given as goal

abbrev pub invariant-loop-node : goal.invariant-loop-node
invariant-loop-node l = (k : ℕ) (node : Node) → k < l.node-index → slice_index_or l.tree k node ≡ node → IsNodeOf l.points node
