-- What a walk to the end of the list shows.
use Rattle.std.proofs.Common.{◌≡◌, ℕ, ◌≤◌, List, [], ◌∷◌, length, Option, Some, None, Result, Ok, Err, IfOk, sym, ◌∙◌, ap, subst, arith}
use Rattle.std.specs.List.{Contains}
use Rattle.mcp_outside.specs.declared.ends.NoMemory.{NoMemory}
use Rattle.plane.specs.declared.coordinates.Point.{Point}
use Rattle.plane.specs.declared.segment.Pair.{Pair}
use Rattle.partition_defs.specs.Partition.{IsConvexPartition}
use Rattle.partition_defs.specs.Triangulation.{AreDistinct, IsBorderList}
use Rattle.cost_defs.specs.Costs.{Costed, total}
use Rattle.price_defs.proofs.laws.Duality.{border_cost_once}
use Rattle.cert_check.specs.Answers.{HasBorderCost}
use Rattle.tree_defs.specs.declared.node.Node.{Node}
use Rattle.tree_defs.specs.declared.node.TreeFault.{TreeFault}
use Rattle.tree_defs.specs.declared.node.TheConstants.{MOST_NODES}
use Rattle.tree_defs.specs.Leaves.{Leaf}
use Rattle.tree_defs.specs.Trees.{root, leaves, IsLeastValue, Shows}
use Rattle.tree_defs.specs.Walks.{Leads, met}
use Rattle.tree_defs.proofs.laws.Bound.{some_leaf_has_prices, tree_bound}
use Rattle.tree_defs.proofs.laws.Walks.{walk_is_tree}
use Rattle.branch_tree.specs.Answers.{IsTreeAnswer}
use Rattle.branch_tree.specs.Values.{IsLeastOf, IsWalked}

-- the walk that the code has made
abbrev pub Walk : Type 0
Walk = Result (Result (Option ℕ) TreeFault) NoMemory

ended : (S : List Point) (D : List Costed) (h : ℕ) (nodes : List Node) (whole : Walk) (r : Result (Option ℕ) TreeFault) (o : Option ℕ) → whole ≡ Ok r → r ≡ Ok o → IfOk whole (IsWalked S D h nodes)
    → Leads S D (root ∷ []) nodes [] × IsLeastOf S D h (met (root ∷ []) nodes) o
ended S D h nodes whole r o e f w =
    subst (λ (x : Result (Option ℕ) TreeFault). IsWalked S D h nodes x) f (subst (λ (x : Walk). IfOk x (IsWalked S D h nodes)) e w)

none_in : (leaf : Leaf) → Contains [] leaf → ⊥
none_in leaf c = omega (arith, c.1)

-- some leaf has prices
pub not_none : (S : List Point) (D : List Costed) (h : ℕ) (nodes : List Node) (known : List Pair) (whole : Walk) (r : Result (Option ℕ) TreeFault) (o : Option ℕ)
    → whole ≡ Ok r → r ≡ Ok o → o ≡ None → IfOk whole (IsWalked S D h nodes) → IsConvexPartition S known → AreDistinct known → ⊥
not_none S D h nodes known whole r o e f g w convex distinct =
    let walked = ended S D h nodes whole r o e f w in
    let tree = (walk_is_tree S D nodes).0 walked.0 in
    let some = some_leaf_has_prices S D tree.0 known tree.2 convex distinct in
    let none : met (root ∷ []) nodes ≡ [] = subst (λ (x : Option ℕ). IsLeastOf S D h (met (root ∷ []) nodes) x) g walked.1 in
    none_in some.0 (subst (λ (l : List Leaf). Contains l some.0) (sym tree.3 ∙ none) some.1)

pub shows : (S : List Point) (D : List Costed) (h : ℕ) (nodes : List Node) (whole : Walk) (r : Result (Option ℕ) TreeFault) (o : Option ℕ) (v : ℕ)
    → whole ≡ Ok r → r ≡ Ok o → o ≡ Some v → IfOk whole (IsWalked S D h nodes) → Shows S D h nodes v
shows S D h nodes whole r o v e f g w =
    let walked = ended S D h nodes whole r o e f w in
    let tree = (walk_is_tree S D nodes).0 walked.0 in
    let least : IsLeastValue S D h (met (root ∷ []) nodes) v = subst (λ (x : Option ℕ). IsLeastOf S D h (met (root ∷ []) nodes) x) g walked.1 in
    (tree.0, tree.1, tree.2, subst (λ (l : List Leaf). IsLeastValue S D h l v) tree.3 least)

pub answered : (S : List Point) (D : List Costed) (h : ℕ) (nodes : List Node) (v : ℕ) → length nodes ≤ MOST_NODES → HasBorderCost S D h → Shows S D h nodes v → IsTreeAnswer S D nodes (Ok v)
answered S D h nodes v few border is = (few, λ B list. subst (λ (k : ℕ). Shows S D k nodes v) (border.2 ∙ border_cost_once S D border.0 B border.1 list) is)

pub bounds : (S : List Point) (D : List Costed) (h : ℕ) (nodes : List Node) (u v : ℕ) (K : List Pair) → 3 ≤ length S → HasBorderCost S D h → Shows S D h nodes u
    → ◌≡◌ {A = Result ℕ TreeFault} (Ok u) (Ok v) → IsConvexPartition S K → AreDistinct K → v ≤ total D K
bounds S D h nodes u v K many border is same convex distinct =
    let e : u ≡ v = cc in
    let b : u ≤ total D K = tree_bound S many D nodes u border.0 K border.1 (subst (λ (k : ℕ). Shows S D k nodes u) border.2 is) convex distinct in
    omega (arith, e, b)
