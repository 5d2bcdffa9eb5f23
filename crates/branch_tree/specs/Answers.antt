-- What the check of a branch tree answers.
use Rattle.std.specs.Prelude.{◌≡◌, ◌≤◌, ◌⊎◌, ℕ, List, length, Result, Ok, Err}
use Rattle.plane.specs.declared.coordinates.Point.{Point}
use Rattle.plane.specs.declared.segment.Pair.{Pair}
use Rattle.partition_defs.specs.Triangulation.{IsBorderList}
use Rattle.cost_defs.specs.Costs.{Costed, total}
use Rattle.tree_defs.specs.declared.node.Node.{Node}
use Rattle.tree_defs.specs.declared.node.TreeFault.{TreeFault}
use Rattle.tree_defs.specs.declared.node.TreeFault.TheVariants.{NoMemory}
use Rattle.tree_defs.specs.declared.node.TheConstants.{MOST_NODES}
use Rattle.tree_defs.specs.Trees.{Shows}
use Rattle.tree_defs.specs.Walks.{IsTreeFault}

-- Ok with the least leaf value exactly where the list shows a right tree, else the first fault; NoMemory may come in place
-- of either
abbrev pub IsTreeAnswer : List Point → List Costed → List Node → Result ℕ TreeFault → Type 0
IsTreeAnswer S D nodes (Ok v) = (length nodes ≤ MOST_NODES) × ((B : List Pair) → IsBorderList S B → Shows S D (total D B) nodes v)
IsTreeAnswer S D nodes (Err fault) = IsTreeFault S D nodes fault ⊎ (fault ≡ NoMemory)
