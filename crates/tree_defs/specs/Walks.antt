-- The walk through a list of nodes, and its first fault.
use Rattle.std.specs.Prelude.{◌≡◌, ℕ, ◌<◌, ◌≤◌, List, [], ◌∷◌, ◌++◌, length, take, slice_index_or}
use Rattle.plane.specs.declared.coordinates.Point.{Point}
use Rattle.cost_defs.specs.Costs.{Costed}
use Rattle.tree_defs.specs.declared.node.Node.{Node}
use Rattle.tree_defs.specs.declared.node.Node.TheVariants.{Branch, Crossed, Barred, Need, Prices}
use Rattle.tree_defs.specs.declared.node.TreeFault.{TreeFault}
use Rattle.tree_defs.specs.declared.node.TreeFault.TheVariants.{Empty, TooManyNodes, BadNode, Extra, Open, NoMemory}
use Rattle.tree_defs.specs.declared.node.TheConstants.{MOST_NODES}
use Rattle.tree_defs.specs.Leaves.{Sets, Leaf}
use Rattle.tree_defs.specs.Trees.{root, taking, barring, IsRightNode, leaf_of}

-- the sets of the nodes right below
abbrev pub below : Sets → Node → List Sets
below s (Branch e) = taking s e ∷ barring s e ∷ []
below s (Crossed e f) = []
below s (Barred e) = []
below s (Need p q) = []
below s (Prices c) = []

-- All nodes of the list are right, where nodes with the sets todo are still wanted, in this order; out is wanted after them.
abbrev pub Leads : List Point → List Costed → (todo : List Sets) → List Node → (out : List Sets) → Type 0
Leads S D todo [] out = out ≡ todo
Leads S D [] (x ∷ xs) out = ⊥
Leads S D (s ∷ todo) (x ∷ xs) out = IsRightNode S D s x × Leads S D (below s x ++ todo) xs out

-- the leaves with prices on the way
abbrev pub met : (todo : List Sets) → List Node → List Leaf
met todo [] = []
met [] (x ∷ xs) = []
met (s ∷ todo) (x ∷ xs) = leaf_of s x ++ met (below s x ++ todo) xs

-- node k is the first that isn't right
abbrev pub IsBadNode : List Point → List Costed → List Node → ℕ → Type 0
IsBadNode S D nodes k =
    (s : Sets) × (todo : List Sets) × (k < length nodes) × Leads S D (root ∷ []) (take k nodes) (s ∷ todo)
    × ((d : Node) → ¬ IsRightNode S D s (slice_index_or nodes k d))

-- the tree was complete before position k
abbrev pub IsExtra : List Point → List Costed → List Node → ℕ → Type 0
IsExtra S D nodes k = (k < length nodes) × Leads S D (root ∷ []) (take k nodes) []

-- the list ends before the tree is complete
abbrev pub IsLeftOpen : List Point → List Costed → List Node → Type 0
IsLeftOpen S D nodes = (s : Sets) × (todo : List Sets) × Leads S D (root ∷ []) nodes (s ∷ todo)

-- the first fault of the list
abbrev pub IsTreeFault : List Point → List Costed → List Node → TreeFault → Type 0
IsTreeFault S D nodes Empty = nodes ≡ []
IsTreeFault S D nodes (TooManyNodes c) = (c ≡ length nodes) × (MOST_NODES < c)
IsTreeFault S D nodes (BadNode k) = (0 < length nodes) × (length nodes ≤ MOST_NODES) × IsBadNode S D nodes k
IsTreeFault S D nodes (Extra k) = (0 < length nodes) × (length nodes ≤ MOST_NODES) × IsExtra S D nodes k
IsTreeFault S D nodes (Open c) = (0 < length nodes) × (length nodes ≤ MOST_NODES) × (c ≡ length nodes) × IsLeftOpen S D nodes
IsTreeFault S D nodes NoMemory = ⊥
