-- A list has one first fault, or it is a right tree.
use Rattle.std.proofs.Common.{◌≡◌, ℕ, zero, suc, ◌<◌, ◌≤◌, List, [], ◌∷◌, ◌++◌, length, take, slice_index_or, sym, ◌∙◌, ap, refl, subst, arith}
use Rattle.std.proofs.Math.Seq.{take-length}
use Rattle.plane.specs.declared.coordinates.Point.{Point}
use Rattle.cost_defs.specs.Costs.{Costed}
use Rattle.tree_defs.specs.declared.node.Node.{Node}
use Rattle.tree_defs.specs.declared.node.Node.TheVariants.{Need}
use Rattle.tree_defs.specs.declared.node.TreeFault.{TreeFault}
use Rattle.tree_defs.specs.declared.node.TreeFault.TheVariants.{Empty, TooManyNodes, BadNode, Extra, Open, NoMemory}
use Rattle.tree_defs.specs.declared.node.TheConstants.{MOST_NODES}
use Rattle.tree_defs.specs.Leaves.{Sets}
use Rattle.tree_defs.specs.Trees.{root, IsRightNode}
use Rattle.tree_defs.specs.Walks.{below, Leads, IsBadNode, IsExtra, IsTreeFault}

-- the walk has one end
pub leads_once : (S : List Point) (D : List Costed) (nodes : List Node) (todo out other : List Sets) → Leads S D todo nodes out → Leads S D todo nodes other → out ≡ other
leads_once S D [] todo out other h k = h ∙ sym k
leads_once S D (x ∷ xs) [] out other h k = absurd h
leads_once S D (x ∷ xs) (s ∷ todo) out other h k = leads_once S D xs (below s x ++ todo) out other h.1 k.1

-- where a longer walk passes, a node is wanted and the one there is right
abbrev Passes : List Point → List Costed → List Sets → List Node → ℕ → Type 0
Passes S D todo nodes j = (s : Sets) × (more : List Sets) × Leads S D todo (take j nodes) (s ∷ more) × ((d : Node) → IsRightNode S D s (slice_index_or nodes j d))

passes : (S : List Point) (D : List Costed) (nodes : List Node) (todo out : List Sets) (k j : ℕ) → j < k → k ≤ length nodes → Leads S D todo (take k nodes) out → Passes S D todo nodes j
passes S D nodes todo out zero j l m h = absurd (omega (arith, l))
passes S D [] todo out (suc k) j l m h = absurd (omega (arith, m))
passes S D (x ∷ xs) [] out (suc k) j l m h = absurd h
passes S D (x ∷ xs) (s ∷ todo) out (suc k) zero l m h = (s, todo, refl, λ d. h.0)
passes S D (x ∷ xs) (s ∷ todo) out (suc k) (suc j) l m h =
    let p : Passes S D (below s x ++ todo) xs j = passes S D xs (below s x ++ todo) out k j (omega (arith, l)) (omega (arith, m)) h.1 in
    (p.0, p.1, (h.0, p.2), p.3)

-- the walk through the list comes to position p and no further
record IsStop (S : List Point) (D : List Costed) (nodes : List Node) (p : ℕ) (out : List Sets) : Type 0 where
  pub within : p ≤ length nodes
  pub leads : Leads S D (root ∷ []) (take p nodes) out
  pub ends : (s : Sets) (more : List Sets) → p < length nodes → out ≡ s ∷ more → ¬ ((d : Node) → IsRightNode S D s (slice_index_or nodes p d))

not_before : (S : List Point) (D : List Costed) (nodes : List Node) (p r : ℕ) (out other : List Sets) → IsStop S D nodes p out → IsStop S D nodes r other → ¬ (p < r)
not_before S D nodes p r out other a b l =
    let g : Passes S D (root ∷ []) nodes p = passes S D nodes (root ∷ []) other r p l b.within b.leads in
    a.ends g.0 g.1 (omega (arith, l, b.within)) (leads_once S D (take p nodes) (root ∷ []) out (g.0 ∷ g.1) a.leads g.2) g.3

stops_once : (S : List Point) (D : List Costed) (nodes : List Node) (p r : ℕ) (out other : List Sets) → IsStop S D nodes p out → IsStop S D nodes r other → (p ≡ r) × (out ≡ other)
stops_once S D nodes p r out other a b =
    let x : ¬ (p < r) = not_before S D nodes p r out other a b in
    let y : ¬ (r < p) = not_before S D nodes r p other out b a in
    let e : p ≡ r = omega (arith, x, y) in
    (e, leads_once S D (take r nodes) (root ∷ []) out other (subst (λ n. Leads S D (root ∷ []) (take n nodes) out) e a.leads) b.leads)

not_cons : (s : Sets) (l : List Sets) → ¬ ([] ≡ s ∷ l)
not_cons s l e = absurd (omega (arith, ap (λ (m : List Sets). length m) e))

head_or : Sets → List Sets → Sets
head_or d [] = d
head_or d (s ∷ l) = s

same_head : (s r : Sets) (l m : List Sets) → s ∷ l ≡ r ∷ m → s ≡ r
unfolding head_or
same_head s r l m e = ap (head_or s) e

stop_at_bad : (S : List Point) (D : List Costed) (nodes : List Node) (k : ℕ) → (b : IsBadNode S D nodes k) → IsStop S D nodes k (b.0 ∷ b.1)
stop_at_bad S D nodes k (s, todo, l, h, bad) =
    record {
      within = omega (arith, l);
      leads = h;
      ends = λ r more m e right. bad (Need 0 0) (subst (λ x. IsRightNode S D x (slice_index_or nodes k (Need 0 0))) (sym (same_head s r todo more e)) (right (Need 0 0)));
    }

stop_at_extra : (S : List Point) (D : List Costed) (nodes : List Node) (k : ℕ) → IsExtra S D nodes k → IsStop S D nodes k []
stop_at_extra S D nodes k (l, h) = record { within = omega (arith, l); leads = h; ends = λ r more m e right. not_cons r more e }

stop_at_end : (S : List Point) (D : List Costed) (nodes : List Node) (out : List Sets) → Leads S D (root ∷ []) nodes out → IsStop S D nodes (length nodes) out
stop_at_end S D nodes out h =
    record {
      within = omega arith;
      leads = subst (λ l. Leads S D (root ∷ []) l out) (sym (take-length nodes)) h;
      ends = λ r more m e right. absurd (omega (arith, m));
    }

both_bad : (S : List Point) (D : List Costed) (nodes : List Node) (k j : ℕ) (out other : List Sets) → IsStop S D nodes k out → IsStop S D nodes j other → k ≡ j
both_bad S D nodes k j out other a b = (stops_once S D nodes k j out other a b).0

pub one_fault : (S : List Point) (D : List Costed) (nodes : List Node) (f g : TreeFault) → IsTreeFault S D nodes f → IsTreeFault S D nodes g → f ≡ g
one_fault S D nodes Empty Empty x y = refl
one_fault S D nodes Empty (TooManyNodes c) x y = absurd (omega (arith, ap (λ (l : List Node). length l) x, y.0, y.1))
one_fault S D nodes Empty (BadNode k) x y = absurd (omega (arith, ap (λ (l : List Node). length l) x, y.0))
one_fault S D nodes Empty (Extra k) x y = absurd (omega (arith, ap (λ (l : List Node). length l) x, y.0))
one_fault S D nodes Empty (Open c) x y = absurd (omega (arith, ap (λ (l : List Node). length l) x, y.0))
one_fault S D nodes (TooManyNodes c) Empty x y = absurd (omega (arith, ap (λ (l : List Node). length l) y, x.0, x.1))
one_fault S D nodes (TooManyNodes c) (TooManyNodes d) x y = ap TooManyNodes (x.0 ∙ sym y.0)
one_fault S D nodes (TooManyNodes c) (BadNode k) x y = absurd (omega (arith, x.0, x.1, y.1))
one_fault S D nodes (TooManyNodes c) (Extra k) x y = absurd (omega (arith, x.0, x.1, y.1))
one_fault S D nodes (TooManyNodes c) (Open d) x y = absurd (omega (arith, x.0, x.1, y.1))
one_fault S D nodes (BadNode k) Empty x y = absurd (omega (arith, ap (λ (l : List Node). length l) y, x.0))
one_fault S D nodes (BadNode k) (TooManyNodes c) x y = absurd (omega (arith, y.0, y.1, x.1))
one_fault S D nodes (BadNode k) (BadNode j) x y = ap BadNode (both_bad S D nodes k j (x.2.0 ∷ x.2.1) (y.2.0 ∷ y.2.1) (stop_at_bad S D nodes k x.2) (stop_at_bad S D nodes j y.2))
one_fault S D nodes (BadNode k) (Extra j) x y = absurd (not_cons x.2.0 x.2.1 (sym ((stops_once S D nodes k j (x.2.0 ∷ x.2.1) [] (stop_at_bad S D nodes k x.2) (stop_at_extra S D nodes j y.2)).1)))
one_fault S D nodes (BadNode k) (Open c) x y =
    absurd (omega (arith, x.2.2, (stops_once S D nodes k (length nodes) (x.2.0 ∷ x.2.1) (y.3.0 ∷ y.3.1) (stop_at_bad S D nodes k x.2) (stop_at_end S D nodes (y.3.0 ∷ y.3.1) y.3.2)).0))
one_fault S D nodes (Extra k) Empty x y = absurd (omega (arith, ap (λ (l : List Node). length l) y, x.0))
one_fault S D nodes (Extra k) (TooManyNodes c) x y = absurd (omega (arith, y.0, y.1, x.1))
one_fault S D nodes (Extra k) (BadNode j) x y = absurd (not_cons y.2.0 y.2.1 ((stops_once S D nodes k j [] (y.2.0 ∷ y.2.1) (stop_at_extra S D nodes k x.2) (stop_at_bad S D nodes j y.2)).1))
one_fault S D nodes (Extra k) (Extra j) x y = ap Extra (both_bad S D nodes k j [] [] (stop_at_extra S D nodes k x.2) (stop_at_extra S D nodes j y.2))
one_fault S D nodes (Extra k) (Open c) x y =
    absurd (not_cons y.3.0 y.3.1 ((stops_once S D nodes k (length nodes) [] (y.3.0 ∷ y.3.1) (stop_at_extra S D nodes k x.2) (stop_at_end S D nodes (y.3.0 ∷ y.3.1) y.3.2)).1))
one_fault S D nodes (Open c) Empty x y = absurd (omega (arith, ap (λ (l : List Node). length l) y, x.0))
one_fault S D nodes (Open c) (TooManyNodes d) x y = absurd (omega (arith, y.0, y.1, x.1))
one_fault S D nodes (Open c) (BadNode k) x y =
    absurd (omega (arith, y.2.2, (stops_once S D nodes k (length nodes) (y.2.0 ∷ y.2.1) (x.3.0 ∷ x.3.1) (stop_at_bad S D nodes k y.2) (stop_at_end S D nodes (x.3.0 ∷ x.3.1) x.3.2)).0))
one_fault S D nodes (Open c) (Extra k) x y =
    absurd (not_cons x.3.0 x.3.1 ((stops_once S D nodes k (length nodes) [] (x.3.0 ∷ x.3.1) (stop_at_extra S D nodes k y.2) (stop_at_end S D nodes (x.3.0 ∷ x.3.1) x.3.2)).1))
one_fault S D nodes (Open c) (Open d) x y = ap Open (x.2 ∙ sym y.2)
one_fault S D nodes Empty NoMemory x y = absurd y
one_fault S D nodes (TooManyNodes c) NoMemory x y = absurd y
one_fault S D nodes (BadNode k) NoMemory x y = absurd y
one_fault S D nodes (Extra k) NoMemory x y = absurd y
one_fault S D nodes (Open c) NoMemory x y = absurd y
one_fault S D nodes NoMemory g x y = absurd x

-- a complete walk has no fault
pub complete_has_none : (S : List Point) (D : List Costed) (nodes : List Node) (f : TreeFault) → IsTreeFault S D nodes f → length nodes ≤ MOST_NODES → ¬ Leads S D (root ∷ []) nodes []
complete_has_none S D nodes Empty x few h = not_cons root [] (subst (λ l. Leads S D (root ∷ []) l []) x h)
complete_has_none S D nodes (TooManyNodes c) x few h = absurd (omega (arith, few, x.0, x.1))
complete_has_none S D nodes (BadNode k) x few h = not_cons x.2.0 x.2.1 (sym ((stops_once S D nodes k (length nodes) (x.2.0 ∷ x.2.1) [] (stop_at_bad S D nodes k x.2) (stop_at_end S D nodes [] h)).1))
complete_has_none S D nodes (Extra k) x few h =
    absurd (omega (arith, x.2.0, (stops_once S D nodes k (length nodes) [] [] (stop_at_extra S D nodes k x.2) (stop_at_end S D nodes [] h)).0))
complete_has_none S D nodes (Open c) x few h =
    not_cons x.3.0 x.3.1 (sym ((stops_once S D nodes (length nodes) (length nodes) (x.3.0 ∷ x.3.1) [] (stop_at_end S D nodes (x.3.0 ∷ x.3.1) x.3.2) (stop_at_end S D nodes [] h)).1))
complete_has_none S D nodes NoMemory x few h = x
