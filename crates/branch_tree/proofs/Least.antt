-- The least value of leaves, part by part.
use Rattle.std.proofs.Common.{◌≡◌, ℕ, ◌<◌, ◌≤◌, inl, inr, List, [], ◌∷◌, ◌++◌, length, min, Option, Some, None, sym, ap, refl, subst, ◌∙◌, arith}
use Rattle.std.specs.List.{Any, Contains}
use Rattle.std.proofs.lemmas.Bool.{cases_lt}
use Rattle.std.proofs.lemmas.List.{append-nil}
use Rattle.std.proofs.lemmas.List.Elements.{Contains-append_left, Contains-append_right, Contains-append_cases}
use Rattle.number_laws.proofs.ListSums.{contains_cases, contains_here}
use Rattle.plane.specs.declared.coordinates.Point.{Point}
use Rattle.plane.specs.declared.segment.Pair.{Pair}
use Rattle.price_defs.specs.declared.row.Certificate.{Certificate}
use Rattle.cost_defs.specs.Costs.{Costed}
use Rattle.tree_defs.specs.Leaves.{Sets, Leaf, IsLeafValue}
use Rattle.tree_defs.specs.Trees.{IsLeastValue, leaf_of}
use Rattle.tree_defs.specs.Laws.{LeafValueIsOne}
use Rattle.tree_defs.proofs.laws.Values.{leaf_value_once}
use Rattle.tree_defs.specs.declared.node.Node.{Node}
use Rattle.tree_defs.specs.declared.node.Node.TheVariants.{Branch, Crossed, Barred, Need, Prices}
use Rattle.branch_tree.specs.Values.{lesser, IsLeastOf, HasNoPrices, IsValueThere}

any_left : {X : Type 0} (P : X → Type 0) (a b : List X) → Any P a → Any P (a ++ b)
any_left P a b (k, x, l, e, p) = let c : Contains (a ++ b) x = Contains-append_left a b x (k, l, e) in (c.0, x, c.1, c.2, p)

any_right : {X : Type 0} (P : X → Type 0) (a b : List X) → Any P b → Any P (a ++ b)
any_right P a b (k, x, l, e, p) = let c : Contains (a ++ b) x = Contains-append_right a b x (k, l, e) in (c.0, x, c.1, c.2, p)

least_both : (S : List Point) (D : List Costed) (h : ℕ) (a b : List Leaf) (v w : ℕ) → IsLeastValue S D h a v → IsLeastValue S D h b w → IsLeastValue S D h (a ++ b) (min v w)
least_both S D h a b v w p q = record {
  is = elim (cases_lt v w) [
    | inl l ↦ (let e : v ≡ min v w = omega (arith, l) in subst (λ n. Any (λ leaf. IsLeafValue S D h leaf n) (a ++ b)) e (any_left (λ leaf. IsLeafValue S D h leaf v) a b p.is))
    | inr g ↦ (let e : w ≡ min v w = omega (arith, g) in subst (λ n. Any (λ leaf. IsLeafValue S D h leaf n) (a ++ b)) e (any_right (λ leaf. IsLeafValue S D h leaf w) a b q.is))
  ];
  least = λ leaf u c is. elim (Contains-append_cases a b leaf c) [
    | inl x ↦ (let l : v ≤ u = p.least leaf u x is in omega (arith, l))
    | inr y ↦ (let l : w ≤ u = q.least leaf u y is in omega (arith, l))
  ];
}

-- the least of two parts
pub least_join : (S : List Point) (D : List Costed) (h : ℕ) (a b : List Leaf) (x y : Option ℕ) → IsLeastOf S D h a x → IsLeastOf S D h b y → IsLeastOf S D h (a ++ b) (lesser x y)
least_join S D h a b None y p q = subst (λ z. IsLeastOf S D h (z ++ b) y) (sym p) q
least_join S D h a b (Some v) None p q = subst (λ z. IsLeastValue S D h z v) (sym (ap (λ z. a ++ z) q ∙ append-nil a)) p
least_join S D h a b (Some v) (Some w) p q = least_both S D h a b v w p q

-- the least of one leaf is its value
pub least_one : (S : List Point) (D : List Costed) (h : ℕ) (leaf : Leaf) (v : ℕ) → IsLeafValue S D h leaf v → IsLeastValue S D h (leaf ∷ []) v
least_one S D h leaf v is = record {
  is = (0, leaf, omega arith, refl, is);
  least = λ other w c value. elim (contains_cases leaf [] other c) [
    | inl e ↦ (let g : v ≡ w = leaf_value_once S D h other v w (subst (λ x. IsLeafValue S D h x v) e is) value in omega (arith, g))
    | inr t ↦ absurd (omega (arith, t.1))
  ];
}

-- a node without prices has no leaf
pub no_leaf : (s : Sets) (x : Node) → HasNoPrices x → leaf_of s x ≡ []
no_leaf s (Branch e) h = refl
no_leaf s (Crossed e f) h = refl
no_leaf s (Barred e) h = refl
no_leaf s (Need p q) h = refl
no_leaf s (Prices c) h = absurd h

-- a node with prices has its value
pub leaf_value_at : (S : List Point) (D : List Costed) (h : ℕ) (s : Sets) (x : Node) (c : Certificate) (taken : List Pair) (v : ℕ) → x ≡ Prices c → taken ≡ s.taken → IsValueThere S D h taken c v → IsLeastValue S D h (leaf_of s x) v
leaf_value_at S D h s x c taken v is same there =
    subst (λ (y : Node). IsLeastValue S D h (leaf_of s y) v) (sym is)
    (least_one S D h (record { sets = s; prices = c }) v (subst (λ (t : List Pair). IsValueThere S D h t c v) same there))

-- the least with the leaves of one more node
pub least_at : (S : List Point) (D : List Costed) (h : ℕ) (a b all : List Leaf) (x y z : Option ℕ) → all ≡ a ++ b → z ≡ lesser x y → IsLeastOf S D h a x → IsLeastOf S D h b y → IsLeastOf S D h all z
least_at S D h a b all x y z same is p q =
    subst (λ (l : List Leaf). IsLeastOf S D h l z) (sym same) (subst (λ (o : Option ℕ). IsLeastOf S D h (a ++ b) o) (sym is) (least_join S D h a b x y p q))
