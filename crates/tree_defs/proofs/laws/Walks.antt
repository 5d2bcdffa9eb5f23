-- The walk through a list of nodes ends exactly where the list is a right tree.
use Rattle.std.proofs.Common.{◌≡◌, List, [], ◌∷◌, ◌++◌, length, sym, ◌∙◌, ap, refl, subst, arith}
use Rattle.std.proofs.lemmas.List.{append_assoc, append-nil}
use Rattle.plane.specs.declared.coordinates.Point.{Point}
use Rattle.cost_defs.specs.Costs.{Costed}
use Rattle.tree_defs.specs.declared.node.Node.{Node}
use Rattle.tree_defs.specs.declared.node.Node.TheVariants.{Branch, Crossed, Barred, Need, Prices}
use Rattle.tree_defs.specs.Leaves.{Sets, Leaf}
use Rattle.tree_defs.specs.Trees.{Tree, Bare, Fork, root, taking, barring, preorder, leaves, leaf_of, IsEnd, IsRightNode, IsRightBelow}
use Rattle.tree_defs.specs.Walks.{Leads, met}
use Rattle.tree_defs.specs.Laws.{WalkIsTree}

-- the list is right trees for the wanted sets, one after the other, with these leaves
abbrev pub Forest : List Point → List Costed → List Sets → List Node → List Leaf → Type 0
Forest S D [] nodes found = (nodes ≡ []) × (found ≡ [])
Forest S D (s ∷ todo) nodes found =
    (t : Tree) × (rest : List Node) × (more : List Leaf) × (nodes ≡ preorder t ++ rest) × IsRightBelow S D s t × (found ≡ leaves s t ++ more) × Forest S D todo rest more

one_end : (S : List Point) (D : List Costed) (s : Sets) (todo : List Sets) (x : Node) (xs : List Node) (found : List Leaf)
    → IsEnd x → IsRightNode S D s x → Forest S D todo xs found → Forest S D (s ∷ todo) (x ∷ xs) (leaf_of s x ++ found)
one_end S D s todo x xs found is right f = (Bare x, xs, found, refl, (is, right), refl, f)

forest : (S : List Point) (D : List Costed) (nodes : List Node) (todo : List Sets) → Leads S D todo nodes [] → Forest S D todo nodes (met todo nodes)
forest S D [] [] h = (refl, refl)
forest S D [] (s ∷ todo) h = absurd (omega (arith, ap (λ (l : List Sets). length l) h))
forest S D (x ∷ xs) [] h = absurd h
forest S D (Branch e ∷ xs) (s ∷ todo) (fresh, h) =
    let f : Forest S D (taking s e ∷ barring s e ∷ todo) xs (met (taking s e ∷ barring s e ∷ todo) xs) = forest S D xs (taking s e ∷ barring s e ∷ todo) h in
    let g : Forest S D (barring s e ∷ todo) f.1 f.2 = f.6 in
    let n : xs ≡ preorder f.0 ++ preorder g.0 ++ g.1 = f.3 ∙ ap (λ l. preorder f.0 ++ l) g.3 ∙ sym (append_assoc (preorder f.0) (preorder g.0) g.1) in
    let l : met (taking s e ∷ barring s e ∷ todo) xs ≡ leaves (taking s e) f.0 ++ leaves (barring s e) g.0 ++ g.2 =
    f.5 ∙ ap (λ l. leaves (taking s e) f.0 ++ l) g.5 ∙ sym (append_assoc (leaves (taking s e) f.0) (leaves (barring s e) g.0) g.2) in
    (Fork e f.0 g.0, g.1, g.2, ap (λ l. Branch e ∷ l) n, (fresh, f.4, g.4), l, g.6)
forest S D (Crossed e f ∷ xs) (s ∷ todo) (right, h) = one_end S D s todo (Crossed e f) xs (met todo xs) tt right (forest S D xs todo h)
forest S D (Barred e ∷ xs) (s ∷ todo) (right, h) = one_end S D s todo (Barred e) xs (met todo xs) tt right (forest S D xs todo h)
forest S D (Need p q ∷ xs) (s ∷ todo) (right, h) = one_end S D s todo (Need p q) xs (met todo xs) tt right (forest S D xs todo h)
forest S D (Prices c ∷ xs) (s ∷ todo) (right, h) = one_end S D s todo (Prices c) xs (met todo xs) tt right (forest S D xs todo h)

-- a right tree can be walked through
pub through : (S : List Point) (D : List Costed) (t : Tree) (s : Sets) (todo out : List Sets) (rest : List Node)
    → IsRightBelow S D s t → Leads S D todo rest out → Leads S D (s ∷ todo) (preorder t ++ rest) out
through S D (Bare (Branch e)) s todo out rest right h = absurd right.0
through S D (Bare (Crossed e f)) s todo out rest right h = (right.1, h)
through S D (Bare (Barred e)) s todo out rest right h = (right.1, h)
through S D (Bare (Need p q)) s todo out rest right h = (right.1, h)
through S D (Bare (Prices c)) s todo out rest right h = (right.1, h)
through S D (Fork e t u) s todo out rest (fresh, left, right) h = (
  fresh,
  subst (λ l. Leads S D (taking s e ∷ barring s e ∷ todo) l out) (sym (append_assoc (preorder t) (preorder u) rest))
      (through S D t (taking s e) (barring s e ∷ todo) out (preorder u ++ rest) left (through S D u (barring s e) todo out rest right h)),
)

walk_of : (S : List Point) (D : List Costed) (t : Tree) → IsRightBelow S D root t → Leads S D (root ∷ []) (preorder t) []
walk_of S D t right = subst (λ l. Leads S D (root ∷ []) l []) (append-nil (preorder t)) (through S D t root [] [] [] right refl)

pub walk_is_tree : (S : List Point) → WalkIsTree S
walk_is_tree S D nodes = (
  (λ h. let f : Forest S D (root ∷ []) nodes (met (root ∷ []) nodes) = forest S D nodes (root ∷ []) h in
      let last : (f.1 ≡ []) × (f.2 ≡ []) = f.6 in
      (f.0, f.3 ∙ ap (λ l. preorder f.0 ++ l) last.0 ∙ append-nil (preorder f.0), f.4, f.5 ∙ ap (λ l. leaves root f.0 ++ l) last.1 ∙ append-nil (leaves root f.0))),
  (λ h. subst (λ l. Leads S D (root ∷ []) l []) (sym h.1) (walk_of S D h.0 h.2)),
)
