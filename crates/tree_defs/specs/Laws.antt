-- The statements of the laws.
use Rattle.std.specs.Prelude.{◌≡◌, ◌↔◌, ◌⊎◌, ℕ, ◌≤◌, ◌<◌, List, [], ◌∷◌, ◌++◌, length}
use Rattle.std.specs.List.{Contains}
use Rattle.plane.specs.declared.coordinates.Point.{Point}
use Rattle.plane.specs.declared.segment.Pair.{Pair}
use Rattle.partition_defs.specs.Partition.{MeetsNeeds, IsConvexPartition}
use Rattle.partition_defs.specs.Triangulation.{AreDistinct, IsBorderList}
use Rattle.plane.specs.Geometry.{IsInner}
use Rattle.price_defs.specs.declared.row.Row.{Row}
use Rattle.price_defs.specs.declared.row.Certificate.{Certificate}
use Rattle.price_defs.specs.Loads.{value}
use Rattle.cost_defs.specs.Costs.{Costed, cost, total}
use Rattle.price_defs.specs.Rows.{AreRight}
use Rattle.price_defs.specs.Raising.{IsRaisedFloor}
use Rattle.tree_defs.specs.declared.node.Node.{Node}
use Rattle.tree_defs.specs.declared.node.TreeFault.{TreeFault}
use Rattle.tree_defs.specs.declared.node.TheConstants.{MOST_NODES}
use Rattle.tree_defs.specs.Leaves.{Sets, Leaf, ArePrices, IsFreePart, IsLeafValue, leaf_value}
use Rattle.tree_defs.specs.Trees.{Tree, Shows, root, preorder, leaves, IsRightBelow, IsLeastValue}
use Rattle.tree_defs.specs.Full.{IsFull, IsFullEnd, IsSound}
use Rattle.tree_defs.specs.Walks.{Leads, met, IsTreeFault}

-- No convex partition, listed without repeats, costs less than the least leaf value of a branch tree.
abbrev pub TreeBound : List Point → Type 0
TreeBound S =
    (D : List Costed) (nodes : List Node) (v : ℕ) (B K : List Pair)
    → IsBorderList S B → Shows S D (total D B) nodes v → IsConvexPartition S K → AreDistinct K → v ≤ total D K

-- A right branch tree has a leaf with prices, since there is a convex partition.
abbrev pub SomeLeafHasPrices : List Point → Type 0
SomeLeafHasPrices S =
    (D : List Costed) (t : Tree) (K : List Pair)
    → IsRightBelow S D root t → IsConvexPartition S K → AreDistinct K → (leaf : Leaf) × Contains (leaves root t) leaf

-- The walk through a list ends exactly where the list is a right tree, and meets its leaves.
abbrev pub WalkIsTree : List Point → Type 0
WalkIsTree S =
    (D : List Costed) (nodes : List Node)
    → Leads S D (root ∷ []) nodes [] ↔ ((t : Tree) × (nodes ≡ preorder t) × IsRightBelow S D root t × (met (root ∷ []) nodes ≡ leaves root t))

-- A leaf has one value.
abbrev pub LeafValueIsOne : List Point → Type 0
LeafValueIsOne S = (D : List Costed) (h : ℕ) (leaf : Leaf) (v w : ℕ) → IsLeafValue S D h leaf v → IsLeafValue S D h leaf w → v ≡ w

-- A list has at most one first fault, and one that shows a least leaf value has none and shows one.
abbrev pub VerdictIsOne : List Point → Type 0
VerdictIsOne S =
    (D : List Costed) (nodes : List Node)
    → ((f g : TreeFault) → IsTreeFault S D nodes f → IsTreeFault S D nodes g → f ≡ g)
    × ((f : TreeFault) → IsTreeFault S D nodes f → length nodes ≤ MOST_NODES → ¬ Leads S D (root ∷ []) nodes [])

-- The plain search's branch tree has one size.
abbrev pub FullIsOne : List Point → Type 0
FullIsOne S = (D : List Costed) (h : ℕ) (first : List Pair) (t u : Tree) → IsFull S D h first t → IsFull S D h first u → length (preorder t) ≡ length (preorder u)

-- Where taken segments that cross nothing meet all needs, they are with the border pairs a convex partition, and its cost is the value of each leaf there.
abbrev pub MetIsPartition : List Point → Type 0
MetIsPartition S =
    (D : List Costed) (q : ℕ) (rows : List Row) (A B free : List Pair)
    → IsSound S A → MeetsNeeds S A → IsBorderList S B → IsFreePart S A free → 0 < q → AreRight S rows
    → IsConvexPartition S (B ++ free) × AreDistinct (B ++ free) × (leaf_value S D (total D B) q rows free ≡ total D (B ++ free))

-- The raised floor certificate of at most 40 points may stand in each leaf.
abbrev pub RaisedFitsLeaves : List Point → Type 0
RaisedFitsLeaves S =
    (D : List Costed) (q : ℕ) (rows : List Row) (s : Sets) → length S ≤ 40 → ((i j : ℕ) → cost D i j ≤ 1000) → IsRaisedFloor S D q rows → ArePrices S D s q rows

-- Where no leaf's value is below the cost of a convex partition, the least leaf value is that cost, and no convex partition costs less.
abbrev pub LeastIsCost : List Point → Type 0
LeastIsCost S =
    (D : List Costed) (nodes : List Node) (v : ℕ) (B K : List Pair) (t : Tree)
    → IsBorderList S B → nodes ≡ preorder t → IsRightBelow S D root t → IsLeastValue S D (total D B) (leaves root t) v → IsConvexPartition S K → AreDistinct K
    → ((leaf : Leaf) (w : ℕ) → Contains (leaves root t) leaf → IsLeafValue S D (total D B) leaf w → total D K ≤ w) → v ≡ total D K

-- Where the plain search ends at its root, and a convex partition is known, no point is inner or the prices show limit.
abbrev pub EndsAtOnce : List Point → Type 0
EndsAtOnce S =
    (D : List Costed) (h limit : ℕ) (c : Certificate) (K : List Pair)
    → IsConvexPartition S K → IsFullEnd S D h limit c root → ((p : ℕ) → p < length S → ¬ IsInner S p) ⊎ (limit ≤ value h c.q c.rows)
