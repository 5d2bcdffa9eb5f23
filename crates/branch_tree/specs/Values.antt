-- For private clauses.
-- Values of leaves, and the least of some.
use Rattle.std.specs.Prelude.{◌≡◌, ◌≤◌, ℕ, List, [], ◌∷◌, length, min, Option, Some, None, Result, Ok, Err, ℤ, pos, ◌-ℤ◌}
use Rattle.std.specs.List.{All, sum_by}
use Rattle.plane.specs.declared.coordinates.Point.{Point}
use Rattle.plane.specs.declared.segment.Pair.{Pair}
use Rattle.price_defs.specs.declared.row.Row.{Row}
use Rattle.price_defs.specs.declared.row.Certificate.{Certificate}
use Rattle.price_defs.specs.Rows.{weight}
use Rattle.price_defs.specs.Loads.{gives, takes}
use Rattle.cost_defs.specs.Costs.{Costed}
use Rattle.tree_defs.specs.declared.node.Node.{Node}
use Rattle.tree_defs.specs.declared.node.Node.TheVariants.{Branch, Crossed, Barred, Need, Prices}
use Rattle.tree_defs.specs.declared.node.TreeFault.{TreeFault}
use Rattle.tree_defs.specs.Leaves.{Sets, Leaf, IsFreePart, leaf_value}
use Rattle.tree_defs.specs.Trees.{root, IsLeastValue, IsRightNode, leaf_of}
use Rattle.tree_defs.specs.Walks.{Leads, met, IsTreeFault}
use Rattle.branch_tree.specs.declared.checking.Judged.{Judged}
use Rattle.branch_tree.specs.declared.checking.Judged.TheVariants.{Wrong, Right}

-- rows of a leaf: few, and light
pub record AreLightRows (rows : List Row) : Type 0 where
  pub few : length rows ≤ 100
  pub each : All (λ row. weight row ≤ 1000000000) rows

-- what the rows give to the listed pairs, less what they take off
abbrev pub IsLoadSum : List Point → List Row → List Pair → ℤ → Type 0
IsLoadSum S rows list sum =
    sum ≡ pos (sum_by (λ (e : Pair). gives S rows e.lo e.hi) list) -ℤ pos (sum_by (λ (e : Pair). takes rows e.lo e.hi) list)

-- a node that isn't one with prices
abbrev pub HasNoPrices : Node → Type 0
HasNoPrices (Branch e) = Unit {0}
HasNoPrices (Crossed e f) = Unit {0}
HasNoPrices (Barred e) = Unit {0}
HasNoPrices (Need p q) = Unit {0}
HasNoPrices (Prices c) = ⊥

-- v is the value of the leaf with these taken pairs
abbrev pub IsValueThere : List Point → List Costed → ℕ → List Pair → Certificate → ℕ → Type 0
IsValueThere S D h taken c v = (free : List Pair) × IsFreePart S taken free × (v ≡ leaf_value S D h c.q c.rows free)

-- the lesser of two values, where there are any
abbrev pub lesser : Option ℕ → Option ℕ → Option ℕ
lesser None o = o
lesser (Some a) None = Some a
lesser (Some a) (Some b) = Some (min a b)

-- the least value of the leaves, none where there are no leaves
abbrev pub IsLeastOf : List Point → List Costed → ℕ → List Leaf → Option ℕ → Type 0
IsLeastOf S D h all None = all ≡ []
IsLeastOf S D h all (Some v) = IsLeastValue S D h all v

-- what is shown of a node with these sets
abbrev pub IsJudged : List Point → List Costed → ℕ → Sets → Node → Judged → Type 0
IsJudged S D h s node Wrong = ¬ IsRightNode S D s node
IsJudged S D h s node (Right value) = IsRightNode S D s node × IsLeastOf S D h (leaf_of s node) value

-- what the walk shows
abbrev pub IsWalked : List Point → List Costed → ℕ → List Node → Result (Option ℕ) TreeFault → Type 0
IsWalked S D h nodes (Ok least) = Leads S D (root ∷ []) nodes [] × IsLeastOf S D h (met (root ∷ []) nodes) least
IsWalked S D h nodes (Err fault) = IsTreeFault S D nodes fault
