-- What a proof of a least cost promises.
use Rattle.std.specs.Prelude.{◌≡◌, ℕ, ◌<◌, ◌≤◌, ◌⊎◌, List, [], ◌∷◌, length}
use Rattle.std.specs.List.{AllPairs, Contains}
use Rattle.plane.specs.declared.coordinates.Point.{Point}
use Rattle.plane.specs.declared.segment.Pair.{Pair}
use Rattle.plane.specs.First.{ComesBefore}
use Rattle.plane.specs.Geometry.{IsBorderPair, IsInner}
use Rattle.partition_defs.specs.Partition.{IsConvexPartition}
use Rattle.price_defs.specs.declared.row.Certificate.{Certificate}
use Rattle.cost_defs.specs.Costs.{Costed, total}
use Rattle.price_defs.specs.Loads.{value}
use Rattle.price_defs.specs.Raising.{IsRaisedFloor}
use Rattle.tree_defs.specs.declared.node.Node.{Node}
use Rattle.tree_defs.specs.declared.node.Node.TheVariants.{Branch, Prices}
use Rattle.tree_defs.specs.Trees.{Tree, preorder, Shows}
use Rattle.tree_defs.specs.Full.{IsFull}

abbrev pub AreAscending : List Pair → Type 0
AreAscending K = AllPairs (λ e f. ComesBefore e.lo e.hi f.lo f.hi) K

-- K lists the segments of first, ascending
abbrev pub IsSortedList : (first K : List Pair) → Type 0
IsSortedList first K = AreAscending K × ((e : Pair) → Contains first e → Contains K e) × ((e : Pair) → Contains K e → Contains first e)

-- K lists the border pairs, ascending
abbrev pub IsBorderSorted : List Point → List Pair → Type 0
IsBorderSorted S K = AreAscending K × ((e : Pair) → Contains K e → (e.hi < length S) × IsBorderPair S e.lo e.hi)
    × ((e : Pair) → e.hi < length S → IsBorderPair S e.lo e.hi → Contains K e)

abbrev pub HasInner : List Point → Type 0
HasInner S = (p : ℕ) × (p < length S) × IsInner S p

-- the tree is one leaf with the raised floor certificate, and the solution is first, or the border pairs where no point is inner
abbrev pub IsOneLeaf : List Point → List Costed → (first solution : List Pair) → List Node → Type 0
IsOneLeaf S D first solution nodes =
    ((c : Certificate) × IsRaisedFloor S D c.q c.rows × (nodes ≡ Prices c ∷ []))
    × (HasInner S → IsSortedList first solution)
    × ((¬ HasInner S) → IsBorderSorted S solution)

-- a proof, from the convex partition first; the border pairs cost h
pub record IsProof (S : List Point) (D : List Costed) (h budget : ℕ) (first solution : List Pair) (nodes : List Node) (least : ℕ) : Type 0 where
  pub partition : IsConvexPartition S solution
  pub ascending : AreAscending solution
  pub cheaper : total D solution ≤ total D first
  pub few : length nodes ≤ budget
  pub shows : Shows S D h nodes least
  -- the least cost is shown where the plain search has room
  pub enough : (t : Tree) → IsFull S D h first t → length (preorder t) ≤ budget → least ≡ total D solution
  pub no_border : (e : Pair) → Contains nodes (Branch e) → ¬ IsBorderPair S e.lo e.hi
  pub one : ((budget < 3) ⊎ ((c : Certificate) × IsRaisedFloor S D c.q c.rows × (value h c.q c.rows ≡ total D first))) → IsOneLeaf S D first solution nodes
