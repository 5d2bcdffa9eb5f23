-- The walk's state as a path: one step of the walk, and going on after a leaf.
use Rattle.std.proofs.Common.{◌≡◌, ◌≢◌, ℕ, zero, suc, ◌+◌, ◌-◌, ◌<◌, ◌≤◌, inl, inr, List, [], ◌∷◌, ◌++◌, length, take, get_or, slice_set, Bool, true, false, cond, sym, ◌∙◌, ap, refl, subst, arith}
use Rattle.std.proofs.lemmas.List.{append_assoc, append-nil, take_all, take_more, get_or_default}
use Rattle.plane.specs.declared.coordinates.Point.{Point}
use Rattle.cost_defs.specs.Costs.{Costed}
use Rattle.plane.specs.declared.segment.Pair.{Pair}
use Rattle.partition_defs.specs.Partition.{AreWithin}
use Rattle.partition_defs.specs.Triangulation.{AreDistinct}
use Rattle.std.specs.List.{Contains}
use Rattle.std.proofs.lemmas.List.Elements.{Contains-get_or}
use Rattle.std.proofs.lemmas.List.Kept.{AllPairs-cons}
use Rattle.number_laws.proofs.ListSums.{contains_cases}
use Rattle.tree_defs.specs.declared.node.Node.{Node}
use Rattle.tree_defs.specs.declared.node.Node.TheVariants.{Branch, Crossed, Barred, Need, Prices}
use Rattle.tree_defs.specs.Leaves.{Sets}
use Rattle.tree_defs.specs.Trees.{root, taking, barring, leaf_of, IsEnd, IsRightNode}
use Rattle.tree_defs.specs.Walks.{below, Leads, met}
use Rattle.branch_tree.specs.declared.path.Step.{Step}
use Rattle.branch_tree.specs.Paths.{child, side, sets_of, pending, wanted}

pub sets_push : (s : Sets) (xs : List Step) (x : Step) → sets_of s (xs ++ x ∷ []) ≡ child (sets_of s xs) x
sets_push s [] x = refl
sets_push s (y ∷ ys) x = sets_push (child s y) ys x

pub pending_push : (s : Sets) (later : List Sets) (xs : List Step) (x : Step)
    → pending s later (xs ++ x ∷ []) ≡ cond x.barred (pending s later xs) (barring (sets_of s xs) x.pair ∷ pending s later xs)
pending_push s later [] x = refl
pending_push s later (y ∷ ys) x = pending_push (child s y) (cond y.barred later (barring s y.pair ∷ later)) ys x

-- the last step of the path is barred: nothing is wanted there
pub pending_pop : (xs : List Step) (x : Step) → x.barred ≡ true → pending root [] (xs ++ x ∷ []) ≡ pending root [] xs
pending_pop xs x e = pending_push root [] xs x ∙ ap (λ b. cond b (pending root [] xs) (barring (sets_of root xs) x.pair ∷ pending root [] xs)) e

-- the last step is not barred: its second child is wanted first
pub wanted_second : (xs : List Step) (x y : Step) → x.barred ≡ false → y.barred ≡ true → y.pair ≡ x.pair → wanted (xs ++ y ∷ []) ≡ pending root [] (xs ++ x ∷ [])
wanted_second xs x y e f same =
    let h : sets_of root (xs ++ y ∷ []) ≡ barring (sets_of root xs) x.pair =
    sets_push root xs y ∙ ap (λ b. cond b (barring (sets_of root xs) y.pair) (taking (sets_of root xs) y.pair)) f ∙ ap (barring (sets_of root xs)) same in
    let p : pending root [] (xs ++ x ∷ []) ≡ barring (sets_of root xs) x.pair ∷ pending root [] xs =
    pending_push root [] xs x ∙ ap (λ b. cond b (pending root [] xs) (barring (sets_of root xs) x.pair ∷ pending root [] xs)) e in
    ap (λ z. z ∷ pending root [] (xs ++ y ∷ [])) h ∙ ap (λ z. barring (sets_of root xs) x.pair ∷ z) (pending_pop xs y f) ∙ sym p

-- a branch: its first child is wanted, then its second
pub wanted_branch : (xs : List Step) (x : Step) → x.barred ≡ false → wanted (xs ++ x ∷ []) ≡ taking (sets_of root xs) x.pair ∷ barring (sets_of root xs) x.pair ∷ pending root [] xs
wanted_branch xs x e =
    let h : sets_of root (xs ++ x ∷ []) ≡ taking (sets_of root xs) x.pair =
    sets_push root xs x ∙ ap (λ b. cond b (barring (sets_of root xs) x.pair) (taking (sets_of root xs) x.pair)) e in
    let p : pending root [] (xs ++ x ∷ []) ≡ barring (sets_of root xs) x.pair ∷ pending root [] xs =
    pending_push root [] xs x ∙ ap (λ b. cond b (pending root [] xs) (barring (sets_of root xs) x.pair ∷ pending root [] xs)) e in
    ap (λ z. z ∷ pending root [] (xs ++ x ∷ [])) h ∙ ap (λ z. taking (sets_of root xs) x.pair ∷ z) p

-- one more node that is right
lead_next : (S : List Point) (D : List Costed) (nodes : List Node) (todo : List Sets) (k : ℕ) (d : Node) (s : Sets) (more : List Sets)
    → k < length nodes → Leads S D todo (take k nodes) (s ∷ more) → IsRightNode S D s (get_or nodes k d) → Leads S D todo (take (suc k) nodes) (below s (get_or nodes k d) ++ more)
lead_next S D [] todo k d s more l h r = absurd (omega (arith, l))
lead_next S D (x ∷ xs) [] zero d s more l h r = absurd (omega (arith, ap (λ (m : List Sets). length m) h))
lead_next S D (x ∷ xs) (t ∷ todo) zero d s more l h r =
    let e : s ∷ more ≡ t ∷ todo = h in
    (subst (λ z. IsRightNode S D z x) (first_same s t more todo e) r, below_same x s t more todo e)
  where
    head_of : Sets → List Sets → Sets
    head_of z [] = z
    head_of z (y ∷ ys) = y

    tail_of : List Sets → List Sets
    tail_of [] = []
    tail_of (y ∷ ys) = ys

    first_same : (a b : Sets) (m n : List Sets) → a ∷ m ≡ b ∷ n → a ≡ b
    first_same a b m n q = cc

    below_same : (y : Node) (a b : Sets) (m n : List Sets) → a ∷ m ≡ b ∷ n → below a y ++ m ≡ below b y ++ n
    below_same y a b m n q = let u : a ≡ b = cc in let v : m ≡ n = cc in ap (λ z. below z y ++ m) u ∙ ap (λ z. below b y ++ z) v
lead_next S D (x ∷ xs) [] (suc k) d s more l h r = absurd h
lead_next S D (x ∷ xs) (t ∷ todo) (suc k) d s more l h r = (h.0, lead_next S D xs (below t x ++ todo) k d s more (omega (arith, l)) h.1 r)

-- the leaves that are met, with one more node
met_next : (S : List Point) (D : List Costed) (nodes : List Node) (todo : List Sets) (k : ℕ) (d : Node) (s : Sets) (more : List Sets)
    → k < length nodes → Leads S D todo (take k nodes) (s ∷ more) → met todo (take (suc k) nodes) ≡ met todo (take k nodes) ++ leaf_of s (get_or nodes k d)
met_next S D [] todo k d s more l h = absurd (omega (arith, l))
met_next S D (x ∷ xs) [] zero d s more l h = absurd (omega (arith, ap (λ (m : List Sets). length m) h))
met_next S D (x ∷ xs) (t ∷ todo) zero d s more l h = append-nil (leaf_of t x) ∙ ap (λ z. leaf_of z x) (same_head t s todo more (sym h))
  where
    same_head : (a b : Sets) (m n : List Sets) → a ∷ m ≡ b ∷ n → a ≡ b
    same_head a b m n q = cc
met_next S D (x ∷ xs) [] (suc k) d s more l h = absurd h
met_next S D (x ∷ xs) (t ∷ todo) (suc k) d s more l h =
    ap (λ z. leaf_of t x ++ z) (met_next S D xs (below t x ++ todo) k d s more (omega (arith, l)) h.1) ∙ sym (append_assoc (leaf_of t x) (met (below t x ++ todo) (take k xs)) (leaf_of s (get_or xs k d)))

pub lead_more : (S : List Point) (D : List Costed) (nodes : List Node) (todo : List Sets) (k : ℕ) (d : Node) (s : Sets) (more : List Sets)
    → k < length nodes → Leads S D todo (take k nodes) (s ∷ more) → IsRightNode S D s (get_or nodes k d) → Leads S D todo (take (k + 1) nodes) (below s (get_or nodes k d) ++ more)
lead_more S D nodes todo k d s more l h r =
    let e : suc k ≡ k + 1 = omega arith in subst (λ n. Leads S D todo (take n nodes) (below s (get_or nodes k d) ++ more)) e (lead_next S D nodes todo k d s more l h r)

pub met_more : (S : List Point) (D : List Costed) (nodes : List Node) (todo : List Sets) (k : ℕ) (d : Node) (s : Sets) (more : List Sets)
    → k < length nodes → Leads S D todo (take k nodes) (s ∷ more) → met todo (take (k + 1) nodes) ≡ met todo (take k nodes) ++ leaf_of s (get_or nodes k d)
met_more S D nodes todo k d s more l h =
    let e : suc k ≡ k + 1 = omega arith in subst (λ n. met todo (take n nodes) ≡ met todo (take k nodes) ++ leaf_of s (get_or nodes k d)) e (met_next S D nodes todo k d s more l h)

split_last : (xs : List Step) (n : ℕ) (d : Step) → n + 1 ≡ length xs → xs ≡ take n xs ++ get_or xs n d ∷ []
split_last xs n d e = sym (take_all (n + 1) xs (omega (arith, e))) ∙ take_more xs n d (omega (arith, e))

set_last : (xs : List Step) (n : ℕ) (y : Step) → n + 1 ≡ length xs → slice_set xs n y ≡ take n xs ++ y ∷ []
set_last [] n y e = absurd (omega (arith, e))
set_last (x ∷ []) zero y e = refl
set_last (x ∷ z ∷ zs) zero y e = absurd (omega (arith, e))
set_last (x ∷ xs) (suc n) y e = ap (λ l. x ∷ l) (set_last xs n y (omega (arith, e)))

-- the last step becomes barred
pub turned : (xs now : List Step) (n : ℕ) (d g y : Step) → n + 1 ≡ length xs → d ≡ get_or xs n d → g ≡ get_or xs n g → d.barred ≡ false → y.barred ≡ true → y.pair ≡ g.pair
    → pending root [] xs ≡ pending root [] now → wanted (slice_set xs n y) ≡ pending root [] now
turned xs now n d g y e at also f b same h =
    let gd : g ≡ get_or xs n d = also ∙ get_or_default xs n g d (omega (arith, e)) in
    ap wanted (set_last xs n y e) ∙ wanted_second (take n xs) (get_or xs n d) y (ap (λ (z : Step). z.barred) (sym at) ∙ f) b (same ∙ ap (λ (z : Step). z.pair) gd)
    ∙ ap (pending root []) (sym (split_last xs n d e)) ∙ h

-- the last step is barred and is taken away
pub popped : (xs now rest : List Step) (n : ℕ) (d : Step) → n + 1 ≡ length xs → d ≡ get_or xs n d → d.barred ≡ true → rest ≡ take n xs
    → pending root [] xs ≡ pending root [] now → pending root [] rest ≡ pending root [] now
popped xs now rest n d e at f is h =
    ap (pending root []) is ∙ sym (pending_pop (take n xs) (get_or xs n d) (ap (λ (z : Step). z.barred) (sym at) ∙ f)) ∙ ap (pending root []) (sym (split_last xs n d e)) ∙ h

side_same : (b : Bool) (s : Sets) (x : Step) → x.barred ≡ b → side b (child s x) ≡ x.pair ∷ side b s
side_same true s x e = ap (λ t. (cond t (barring s x.pair) (taking s x.pair)).barred) e
side_same false s x e = ap (λ t. (cond t (barring s x.pair) (taking s x.pair)).taken) e

side_other : (b t : Bool) (s : Sets) (p : Pair) → ¬ (t ≡ b) → side b (cond t (barring s p) (taking s p)) ≡ side b s
side_other true true s p h = absurd (h refl)
side_other true false s p h = refl
side_other false true s p h = refl
side_other false false s p h = absurd (h refl)

sets_more : (xs : List Step) (n : ℕ) (x : Step) → n < length xs → x ≡ get_or xs n x → sets_of root (take (n + 1) xs) ≡ child (sets_of root (take n xs)) x
sets_more xs n x l is = ap (sets_of root) (take_more xs n x l) ∙ sets_push root (take n xs) (get_or xs n x) ∙ ap (child (sets_of root (take n xs))) (sym is)

one_down : (k : ℕ) → 0 < k → k - 1 + 1 ≡ k
one_down k h = omega (arith, h)

pub side_keep : (b : Bool) (xs : List Step) (whole list now : List Pair) (k : ℕ) (x y : Step) → 0 < k → k ≤ length xs → whole ≡ list ++ side b (sets_of root (take k xs))
    → x ≡ get_or xs (k - 1) x → x.barred ≡ b → y ≡ get_or xs (k - 1) y → now ≡ list ++ (get_or xs (k - 1) y).pair ∷ [] → (k - 1 ≤ length xs) × (whole ≡ now ++ side b (sets_of root (take (k - 1) xs)))
side_keep b xs whole list now k x y h l inv is on also put =
    let lt : k - 1 < length xs = omega (arith, h, l) in
    let same : x ≡ y = is ∙ get_or_default xs (k - 1) x y lt ∙ sym also in
    let e : sets_of root (take k xs) ≡ child (sets_of root (take (k - 1) xs)) y = ap (λ n. sets_of root (take n xs)) (sym (one_down k h)) ∙ sets_more xs (k - 1) y lt also in
    let c : side b (sets_of root (take k xs)) ≡ y.pair ∷ side b (sets_of root (take (k - 1) xs)) = ap (side b) e ∙ side_same b (sets_of root (take (k - 1) xs)) y (ap (λ (z : Step). z.barred) (sym same) ∙ on) in
    let mine : now ≡ list ++ y.pair ∷ [] = put ∙ ap (λ (z : Step). list ++ z.pair ∷ []) (sym also) in
    (omega (arith, lt), inv ∙ ap (λ z. list ++ z) c ∙ sym (append_assoc list (y.pair ∷ []) (side b (sets_of root (take (k - 1) xs)))) ∙ ap (λ z. z ++ side b (sets_of root (take (k - 1) xs))) (sym mine))

pub side_skip : (b : Bool) (xs : List Step) (whole list : List Pair) (k : ℕ) (x : Step) → 0 < k → k ≤ length xs → whole ≡ list ++ side b (sets_of root (take k xs))
    → x ≡ get_or xs (k - 1) x → ¬ (x.barred ≡ b) → (k - 1 ≤ length xs) × (whole ≡ list ++ side b (sets_of root (take (k - 1) xs)))
side_skip b xs whole list k x h l inv is off =
    let lt : k - 1 < length xs = omega (arith, h, l) in
    let e : sets_of root (take k xs) ≡ child (sets_of root (take (k - 1) xs)) x = ap (λ n. sets_of root (take n xs)) (sym (one_down k h)) ∙ sets_more xs (k - 1) x lt is in
    (omega (arith, lt), inv ∙ ap (λ z. list ++ z) (ap (side b) e ∙ side_other b x.barred (sets_of root (take (k - 1) xs)) x.pair off))

-- all that is wanted has taken segments of points
abbrev pub AreInside : List Point → List Sets → Type 0
AreInside S [] = Unit {0}
AreInside S (s ∷ todo) = AreWithin S s.taken × AreInside S todo

below_inside : (S : List Point) (D : List Costed) (s : Sets) (x : Node) (todo : List Sets) → AreWithin S s.taken → IsRightNode S D s x → AreInside S todo → AreInside S (below s x ++ todo)
below_inside S D s (Branch e) todo w r h = ((λ f c. elim (contains_cases e s.taken f c) [ inl q ↦ subst (λ (z : Pair). z.hi < length S) q r.within | inr t ↦ w f t ]), (w, h))
below_inside S D s (Crossed e f) todo w r h = h
below_inside S D s (Barred e) todo w r h = h
below_inside S D s (Need p q) todo w r h = h
below_inside S D s (Prices c) todo w r h = h

leads_inside : (S : List Point) (D : List Costed) (nodes : List Node) (todo out : List Sets) → AreInside S todo → Leads S D todo nodes out → AreInside S out
leads_inside S D [] todo out w h = subst (AreInside S) (sym h) w
leads_inside S D (x ∷ xs) [] out w h = absurd h
leads_inside S D (x ∷ xs) (s ∷ todo) out w h = leads_inside S D xs (below s x ++ todo) out (below_inside S D s x todo w.0 h.0 w.1) h.1

at_path : (S : List Point) (D : List Costed) (nodes : List Node) (k : ℕ) (path : List Step) (open_now : Bool) → open_now ≡ true
    → Leads S D (root ∷ []) (take k nodes) (cond open_now (wanted path) []) → Leads S D (root ∷ []) (take k nodes) (wanted path)
at_path S D nodes k path o e h = subst (λ b. Leads S D (root ∷ []) (take k nodes) (cond b (wanted path) [])) e h

pub path_inside : (S : List Point) (D : List Costed) (nodes : List Node) (k : ℕ) (path : List Step) (open_now : Bool) → open_now ≡ true
    → Leads S D (root ∷ []) (take k nodes) (cond open_now (wanted path) []) → AreWithin S (sets_of root path).taken
path_inside S D nodes k path o e h =
    (leads_inside S D (take k nodes) (root ∷ []) (wanted path) ((λ f c. absurd (omega (arith, c.1))), tt) (at_path S D nodes k path o e h)).0

pub step_branch : (S : List Point) (D : List Costed) (nodes : List Node) (k : ℕ) (path now : List Step) (o after : Bool) (d : Node) (e : Pair) (x : Step)
    → k < length nodes → o ≡ true → Leads S D (root ∷ []) (take k nodes) (cond o (wanted path) []) → IsRightNode S D (sets_of root path) (get_or nodes k d) → get_or nodes k d ≡ Branch e
    → now ≡ path ++ x ∷ [] → x.barred ≡ false → x.pair ≡ e → after ≡ true → Leads S D (root ∷ []) (take (k + 1) nodes) (cond after (wanted now) [])
step_branch S D nodes k path now o after d e x l open_now h right is put off same stays =
    let m : Leads S D (root ∷ []) (take (k + 1) nodes) (below (sets_of root path) (get_or nodes k d) ++ pending root [] path) =
    lead_more S D nodes (root ∷ []) k d (sets_of root path) (pending root [] path) l (at_path S D nodes k path o open_now h) right in
    let b : below (sets_of root path) (get_or nodes k d) ++ pending root [] path ≡ taking (sets_of root path) e ∷ barring (sets_of root path) e ∷ pending root [] path =
    ap (λ z. below (sets_of root path) z ++ pending root [] path) is in
    let w : wanted now ≡ taking (sets_of root path) e ∷ barring (sets_of root path) e ∷ pending root [] path =
    ap wanted put ∙ wanted_branch path x off ∙ ap (λ z. taking (sets_of root path) z ∷ barring (sets_of root path) z ∷ pending root [] path) same in
    subst (λ z. Leads S D (root ∷ []) (take (k + 1) nodes) (cond z (wanted now) [])) (sym stays) (subst (Leads S D (root ∷ []) (take (k + 1) nodes)) (b ∙ sym w) m)

none_below : (s : Sets) (x : Node) (more : List Sets) → IsEnd x → below s x ++ more ≡ more
none_below s (Branch e) more h = absurd h
none_below s (Crossed e f) more h = refl
none_below s (Barred e) more h = refl
none_below s (Need p q) more h = refl
none_below s (Prices c) more h = refl

pub step_end : (S : List Point) (D : List Costed) (nodes : List Node) (k : ℕ) (path now : List Step) (o after : Bool) (d : Node)
    → k < length nodes → o ≡ true → Leads S D (root ∷ []) (take k nodes) (cond o (wanted path) []) → IsRightNode S D (sets_of root path) (get_or nodes k d) → IsEnd (get_or nodes k d)
    → (after ≡ true → wanted now ≡ pending root [] path) → (after ≡ false → pending root [] path ≡ []) → Leads S D (root ∷ []) (take (k + 1) nodes) (cond after (wanted now) [])
step_end S D nodes k path now o after d l open_now h right is more done =
    let m : Leads S D (root ∷ []) (take (k + 1) nodes) (below (sets_of root path) (get_or nodes k d) ++ pending root [] path) =
    lead_more S D nodes (root ∷ []) k d (sets_of root path) (pending root [] path) l (at_path S D nodes k path o open_now h) right in
    let p : Leads S D (root ∷ []) (take (k + 1) nodes) (pending root [] path) = subst (Leads S D (root ∷ []) (take (k + 1) nodes)) (none_below (sets_of root path) (get_or nodes k d) (pending root [] path) is) m in
    elim after as (λ b. (b ≡ true → wanted now ≡ pending root [] path) → (b ≡ false → pending root [] path ≡ []) → Leads S D (root ∷ []) (take (k + 1) nodes) (cond b (wanted now) [])) [
      | true ↦ λ f g. subst (Leads S D (root ∷ []) (take (k + 1) nodes)) (sym (f refl)) p
      | false ↦ λ f g. subst (Leads S D (root ∷ []) (take (k + 1) nodes)) (g refl) p
    ] more done

-- all that is wanted has no pair twice among its taken ones
abbrev pub AreApart : List Sets → Type 0
AreApart [] = Unit {0}
AreApart (s ∷ todo) = AreDistinct s.taken × AreApart todo

taking_apart : (s : Sets) (e : Pair) → AreDistinct s.taken → ¬ Contains s.taken e → AreDistinct (e ∷ s.taken)
taking_apart s e apart new =
    AllPairs-cons (λ (f g : Pair). f ≢ g) e s.taken (λ k d l same. new (subst (Contains s.taken) (sym same) (Contains-get_or s.taken k d l))) apart

below_apart : (S : List Point) (D : List Costed) (s : Sets) (x : Node) (todo : List Sets) → AreDistinct s.taken → IsRightNode S D s x → AreApart todo → AreApart (below s x ++ todo)
below_apart S D s (Branch e) todo w r h = (taking_apart s e w r.not_taken, (w, h))
below_apart S D s (Crossed e f) todo w r h = h
below_apart S D s (Barred e) todo w r h = h
below_apart S D s (Need p q) todo w r h = h
below_apart S D s (Prices c) todo w r h = h

leads_apart : (S : List Point) (D : List Costed) (nodes : List Node) (todo out : List Sets) → AreApart todo → Leads S D todo nodes out → AreApart out
leads_apart S D [] todo out w h = subst AreApart (sym h) w
leads_apart S D (x ∷ xs) [] out w h = absurd h
leads_apart S D (x ∷ xs) (s ∷ todo) out w h = leads_apart S D xs (below s x ++ todo) out (below_apart S D s x todo w.0 h.0 w.1) h.1

pub path_apart : (S : List Point) (D : List Costed) (nodes : List Node) (k : ℕ) (path : List Step) (open_now : Bool) → open_now ≡ true
    → Leads S D (root ∷ []) (take k nodes) (cond open_now (wanted path) []) → AreDistinct (sets_of root path).taken
path_apart S D nodes k path o e h =
    (leads_apart S D (take k nodes) (root ∷ []) (wanted path) ((λ i j d l m. absurd (omega (arith, l, m))), tt) (at_path S D nodes k path o e h)).0

-- the leaves that are met, with those of the node at the end of the path
pub met_path : (S : List Point) (D : List Costed) (nodes : List Node) (k : ℕ) (d : Node) (path : List Step) (open_now : Bool) → k < length nodes → open_now ≡ true
    → Leads S D (root ∷ []) (take k nodes) (cond open_now (wanted path) []) → met (root ∷ []) (take (k + 1) nodes) ≡ met (root ∷ []) (take k nodes) ++ leaf_of (sets_of root path) (get_or nodes k d)
met_path S D nodes k d path o l e h = met_more S D nodes (root ∷ []) k d (sets_of root path) (pending root [] path) l (at_path S D nodes k path o e h)

child_few : (s : Sets) (x : Step) → length (child s x).taken ≤ length s.taken + 1
child_few s x = elim x.barred as (λ b. length (cond b (barring s x.pair) (taking s x.pair)).taken ≤ length s.taken + 1) [ true ↦ omega arith | false ↦ omega arith ]

few_taken : (s : Sets) (xs : List Step) → length (sets_of s xs).taken ≤ length s.taken + length xs
few_taken s [] = omega arith
few_taken s (x ∷ xs) =
    let h : length (sets_of (child s x) xs).taken ≤ length (child s x).taken + length xs = few_taken (child s x) xs in omega (arith, h, child_few s x)

-- no more pairs are taken than the path has steps
pub path_few : (xs : List Step) → length (sets_of root xs).taken ≤ length xs
path_few xs = let h : length (sets_of root xs).taken ≤ 0 + length xs = few_taken root xs in omega (arith, h)
