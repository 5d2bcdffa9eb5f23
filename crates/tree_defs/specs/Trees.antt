-- Branch trees. (This project's own, after branch and bound.)
use Rattle.std.specs.Prelude.{◌≡◌, ℕ, ◌<◌, ◌≤◌, List, [], ◌∷◌, ◌++◌, length}
use Rattle.std.specs.List.{Any, Contains}
use Rattle.plane.specs.declared.coordinates.Point.{Point}
use Rattle.plane.specs.declared.segment.Pair.{Pair}
use Rattle.plane.specs.Geometry.{IsClear, AreCrossing, IsBorderPair}
use Rattle.cost_defs.specs.Costs.{Costed}
use Rattle.tree_defs.specs.declared.node.Node.{Node}
use Rattle.tree_defs.specs.declared.node.Node.TheVariants.{Branch, Crossed, Barred, Need, Prices}
use Rattle.tree_defs.specs.Leaves.{Sets, Leaf, IsStarved, ArePrices, IsLeafValue}

-- the root's sets
abbrev pub root : Sets
root = record { taken = []; barred = [] }

-- the sets below a branch: the segment is taken, and it is barred
abbrev pub taking : Sets → Pair → Sets
taking s e = record { taken = e ∷ s.taken; barred = s.barred }

abbrev pub barring : Sets → Pair → Sets
barring s e = record { taken = s.taken; barred = e ∷ s.barred }

-- a clear segment, neither taken nor barred
pub record IsUndecided (S : List Point) (s : Sets) (e : Pair) : Type 0 where
  pub within : e.hi < length S
  pub clear : IsClear S e.lo e.hi
  pub not_taken : ¬ Contains s.taken e
  pub not_barred : ¬ Contains s.barred e

-- a node is right where it has these sets
abbrev pub IsRightNode : List Point → List Costed → Sets → Node → Type 0
IsRightNode S D s (Branch e) = IsUndecided S s e
IsRightNode S D s (Crossed e f) = Contains s.taken e × Contains s.taken f × AreCrossing S e.lo e.hi f.lo f.hi
IsRightNode S D s (Barred e) = (e.hi < length S) × IsBorderPair S e.lo e.hi × Contains s.barred e
IsRightNode S D s (Need p q) = IsStarved S s p q
IsRightNode S D s (Prices c) = ArePrices S D s c.q c.rows

-- the leaf, where the node is one with prices
abbrev pub leaf_of : Sets → Node → List Leaf
leaf_of s (Branch e) = []
leaf_of s (Crossed e f) = []
leaf_of s (Barred e) = []
leaf_of s (Need p q) = []
leaf_of s (Prices c) = record { sets = s; prices = c } ∷ []

-- a node with no branch below it, or a branch with what is below
pub data Tree : Type 0 where
  Bare : Node → Tree
  Fork : Pair → Tree → Tree → Tree

-- the list of the nodes in preorder
abbrev pub preorder : Tree → List Node
preorder (Bare x) = x ∷ []
preorder (Fork e t u) = Branch e ∷ preorder t ++ preorder u

-- a node that is no branch
abbrev pub IsEnd : Node → Type 0
IsEnd (Branch e) = ⊥
IsEnd (Crossed e f) = Unit {0}
IsEnd (Barred e) = Unit {0}
IsEnd (Need p q) = Unit {0}
IsEnd (Prices c) = Unit {0}

-- each node of the tree is right, where its root has these sets
abbrev pub IsRightBelow : List Point → List Costed → Sets → Tree → Type 0
IsRightBelow S D s (Bare x) = IsEnd x × IsRightNode S D s x
IsRightBelow S D s (Fork e t u) = IsUndecided S s e × IsRightBelow S D (taking s e) t × IsRightBelow S D (barring s e) u

-- the leaves with prices, from left to right
abbrev pub leaves : Sets → Tree → List Leaf
leaves s (Bare x) = leaf_of s x
leaves s (Fork e t u) = leaves (taking s e) t ++ leaves (barring s e) u

-- v is the least leaf value
pub record IsLeastValue (S : List Point) (D : List Costed) (h : ℕ) (all : List Leaf) (v : ℕ) : Type 0 where
  pub is : Any (λ leaf. IsLeafValue S D h leaf v) all
  pub least : (leaf : Leaf) (w : ℕ) → Contains all leaf → IsLeafValue S D h leaf w → v ≤ w

-- the list shows a right branch tree, and v is its least leaf value
abbrev pub Shows : List Point → List Costed → (h : ℕ) → List Node → (v : ℕ) → Type 0
Shows S D h nodes v = (t : Tree) × (nodes ≡ preorder t) × IsRightBelow S D root t × IsLeastValue S D h (leaves root t) v
