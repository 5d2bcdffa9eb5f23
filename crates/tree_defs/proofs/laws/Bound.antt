-- A branch tree bounds the cost: each convex partition leads to a leaf with prices.
use Rattle.std.proofs.Common.{◌≡◌, ◌≢◌, ℕ, ◌<◌, ◌≤◌, inl, inr, List, [], ◌∷◌, ◌++◌, length, pos, Bool, true, false, cond, sym, ◌∙◌, ap, refl, subst, arith}
use Rattle.std.specs.Prelude.{◌<ℤ◌, ◌&&◌, not}
use Rattle.std.specs.List.{Any, Contains, list_any, filter}
use Rattle.std.proofs.lemmas.Int.{ints}
use Rattle.std.proofs.lemmas.Bool.{false≢true}
use Rattle.std.proofs.lemmas.List.Elements.{All-filter, filter_passes, Contains-get_or, Contains-append_left, Contains-append_right}
use Rattle.std.proofs.lemmas.List.Kept.{AllPairs-filter}
use Rattle.plane.specs.declared.coordinates.Point.{Point}
use Rattle.plane.specs.declared.segment.Pair.{Pair}
use Rattle.plane.specs.Geometry.{point, area, AreOpposite, AreCrossing, IsBorderPair, IsClear}
use Rattle.plane.proofs.laws.Area.{area_cycle, area_swap}
use Rattle.partition_defs.specs.Partition.{HasEnds, Joins, IsMet, IsConvexPartition}
use Rattle.partition_defs.specs.Triangulation.{AreDistinct, IsBorderList}
use Rattle.cost_defs.specs.Costs.{Costed, total}
use Rattle.number_laws.proofs.ListSums.{contains_cases, contains_here, contains_later}
use Rattle.plane.proofs.laws.Border.{clear_back}
use Rattle.price_defs.proofs.laws.Tests.{same_pair, same_pair_decides}
use Rattle.price_defs.proofs.laws.Counted.{ends_same}
use Rattle.tree_defs.specs.declared.node.Node.{Node}
use Rattle.tree_defs.specs.declared.node.Node.TheVariants.{Branch, Crossed, Barred, Need, Prices}
use Rattle.tree_defs.specs.Leaves.{Sets, Leaf, IsStarved, ArePrices, IsFreePart, IsLeafValue, leaf_value}
use Rattle.tree_defs.specs.Trees.{Tree, Bare, Fork, root, taking, barring, leaves, leaf_of, IsRightBelow}
use Rattle.tree_defs.specs.Laws.{TreeBound, SomeLeafHasPrices, LeastIsCost}
use Rattle.tree_defs.proofs.laws.Parts.{contains_of_any, any_of_contains}
use Rattle.tree_defs.proofs.laws.Leaves.{Agrees, leaf_bound, in_border, not_border}

-- Crossing doesn't depend on the order of the ends.
area_back : (p q r : Point) → pos 0 <ℤ area p q r → area q p r <ℤ pos 0
area_back p q r h = omega (arith, ints, h, area_cycle q p r, area_swap p q r)

area_forth : (p q r : Point) → area p q r <ℤ pos 0 → pos 0 <ℤ area q p r
area_forth p q r h = omega (arith, ints, h, area_cycle q p r, area_swap p q r)

pub crossing_turned : (S : List Point) (i j k l : ℕ) → AreCrossing S i j k l → AreCrossing S j i k l
crossing_turned S i j k l (a, b) = (first a, second b)
  where
    first : AreOpposite (area (point S i) (point S j) (point S k)) (area (point S i) (point S j) (point S l)) → AreOpposite (area (point S j) (point S i) (point S k)) (area (point S j) (point S i) (point S l))
    first (inl h) = inr (area_forth (point S i) (point S j) (point S k) h.0, area_back (point S i) (point S j) (point S l) h.1)
    first (inr h) = inl (area_back (point S i) (point S j) (point S k) h.0, area_forth (point S i) (point S j) (point S l) h.1)

    second : AreOpposite (area (point S k) (point S l) (point S i)) (area (point S k) (point S l) (point S j)) → AreOpposite (area (point S k) (point S l) (point S j)) (area (point S k) (point S l) (point S i))
    second (inl h) = inr (h.1, h.0)
    second (inr h) = inl (h.1, h.0)

-- the segment of the list with these two ends
crossing_at : (S : List Point) (e : Pair) (p r k l : ℕ) → HasEnds e p r → AreCrossing S p r k l → AreCrossing S e.lo e.hi k l
crossing_at S e p r k l (inl h) c = subst (λ x. AreCrossing S x e.hi k l) (sym h.0) (subst (λ x. AreCrossing S p x k l) (sym h.1) c)
crossing_at S e p r k l (inr h) c =
    subst (λ x. AreCrossing S x e.hi k l) (sym h.0) (subst (λ x. AreCrossing S r x k l) (sym h.1) (crossing_turned S p r k l c))

clear_at : (S : List Point) (e : Pair) (p r : ℕ) → HasEnds e p r → IsClear S e.lo e.hi → IsClear S p r
clear_at S e p r (inl h) c = subst (λ x. IsClear S x r) h.0 (subst (λ x. IsClear S e.lo x) h.1 c)
clear_at S e p r (inr h) c = clear_back S r p (subst (λ x. IsClear S x p) h.0 (subst (λ x. IsClear S e.lo x) h.1 c))

same_ends : (e f : Pair) (p r : ℕ) → HasEnds e p r → HasEnds f p r → e ≡ f
same_ends e f p r (inl h) (inl k) = ends_same e f (inl (h.0 ∙ sym k.0, h.1 ∙ sym k.1))
same_ends e f p r (inl h) (inr k) = ends_same e f (inr (h.0 ∙ sym k.1, h.1 ∙ sym k.0))
same_ends e f p r (inr h) (inl k) = ends_same e f (inr (h.0 ∙ sym k.1, h.1 ∙ sym k.0))
same_ends e f p r (inr h) (inr k) = ends_same e f (inl (h.0 ∙ sym k.0, h.1 ∙ sym k.1))

-- No convex partition agrees with a need that can't be met.
pub not_starved : (S : List Point) (s : Sets) (K : List Pair) (p q : ℕ) → Agrees s K → IsConvexPartition S K → ¬ IsStarved S s p q
not_starved S s K p q agrees convex starved =
    let m : IsMet S K p q = convex.needs p starved.within starved.inner q starved.other (λ e. starved.apart (sym e)) in
    let a : Any (λ (e : Pair). HasEnds e p m.0) K = m.2 in
    let e_in : Contains K a.1 = (a.0, a.2, a.3) in
    elim (starved.all m.0 m.1 (clear_at S a.1 p m.0 a.4 (convex.clear a.1 e_in)) m.3) [
      | inl b ↦ agrees.barred b.1 (b.0, b.2, b.3) (subst (Contains K) (same_ends a.1 b.1 p m.0 a.4 b.4) e_in)
      | inr x ↦ convex.plane a.1 x.0 e_in (agrees.taken x.0 x.1) (crossing_at S a.1 p m.0 x.0.lo x.0.hi a.4 x.2)
    ]

not_barred_border : (S : List Point) (s : Sets) (K : List Pair) (e : Pair) → Agrees s K → IsConvexPartition S K → e.hi < length S → IsBorderPair S e.lo e.hi → ¬ Contains s.barred e
not_barred_border S s K e agrees convex n is c =
    let a : Joins K e.lo e.hi = convex.border e.lo e.hi e.ordered n is in
    agrees.barred e c (subst (Contains K) (ends_same a.1 e a.4) (a.0, a.2, a.3))

-- A convex partition that agrees with the sets of a branch agrees with those of one of its children.
agrees_taking : (s : Sets) (K : List Pair) (e : Pair) → Agrees s K → Contains K e → Agrees (taking s e) K
agrees_taking s K e agrees c =
    record {
      taken = λ f d. elim (contains_cases e s.taken f d) [ inl h ↦ subst (Contains K) h c | inr t ↦ agrees.taken f t ];
      barred = agrees.barred;
    }

agrees_barring : (s : Sets) (K : List Pair) (e : Pair) → Agrees s K → ¬ Contains K e → Agrees (barring s e) K
agrees_barring s K e agrees c =
    record {
      taken = agrees.taken;
      barred = λ f d g. elim (contains_cases e s.barred f d) [ inl h ↦ c (subst (Contains K) (sym h) g) | inr t ↦ agrees.barred f t g ];
    }

-- the leaf that a convex partition leads to
pub record Reached (S : List Point) (D : List Costed) (K : List Pair) (all : List Leaf) : Type 0 where
  pub leaf : Leaf
  pub among : Contains all leaf
  pub agrees : Agrees leaf.sets K
  pub prices : ArePrices S D leaf.sets leaf.prices.q leaf.prices.rows

at_node : (S : List Point) (D : List Costed) (s : Sets) (x : Node) (K : List Pair)
    → IsRightBelow S D s (Bare x) → Agrees s K → IsConvexPartition S K → Reached S D K (leaf_of s x)
at_node S D s (Branch e) K right agrees convex = absurd right.0
at_node S D s (Crossed e f) K right agrees convex = absurd (convex.plane e f (agrees.taken e right.1.0) (agrees.taken f right.1.1) right.1.2)
at_node S D s (Barred e) K right agrees convex = absurd (not_barred_border S s K e agrees convex right.1.0 right.1.1 right.1.2)
at_node S D s (Need p q) K right agrees convex = absurd (not_starved S s K p q agrees convex right.1)
at_node S D s (Prices c) K right agrees convex =
    record { leaf = record { sets = s; prices = c }; among = contains_here (record { sets = s; prices = c }) []; agrees = agrees; prices = right.1 }

pub reached : (S : List Point) (D : List Costed) (s : Sets) (t : Tree) (K : List Pair)
    → IsRightBelow S D s t → Agrees s K → IsConvexPartition S K → Reached S D K (leaves s t)
reached S D s (Bare x) K right agrees convex = at_node S D s x K right agrees convex
reached S D s (Fork e t u) K right agrees convex =
    elim (list_any (same_pair e) K) as (λ b. list_any (same_pair e) K ≡ b → Reached S D K (leaves (taking s e) t ++ leaves (barring s e) u)) [
      | true ↦ λ h. (let r : Reached S D K (leaves (taking s e) t) =
          reached S D (taking s e) t K right.1 (agrees_taking s K e agrees (contains_of_any same_pair same_pair_decides e K h)) convex in
          record { leaf = r.leaf; among = Contains-append_left (leaves (taking s e) t) (leaves (barring s e) u) r.leaf r.among; agrees = r.agrees; prices = r.prices })
      | false ↦ λ h. (let r : Reached S D K (leaves (barring s e) u) =
          reached S D (barring s e) u K right.2
          (agrees_barring s K e agrees (λ c. false≢true (sym h ∙ any_of_contains same_pair same_pair_decides e K c))) convex in
          record { leaf = r.leaf; among = Contains-append_right (leaves (taking s e) t) (leaves (barring s e) u) r.leaf r.among; agrees = r.agrees; prices = r.prices })
    ] refl

pub nothing : (K : List Pair) → Agrees root K
nothing K = record { taken = λ e c. absurd (omega (arith, c.1)); barred = λ e c. absurd (omega (arith, c.1)) }

pub some_leaf_has_prices : (S : List Point) → SomeLeafHasPrices S
some_leaf_has_prices S D t K right convex d =
    let r : Reached S D K (leaves root t) = reached S D root t K right (nothing K) convex in (r.leaf, r.among)

-- The taken segments that aren't border pairs have a list.
in_filter : (p : Pair → Bool) (xs : List Pair) (x : Pair) → Contains xs x → p x ≡ true → Contains (filter p xs) x
in_filter p [] x c h = absurd (omega (arith, c.1))
in_filter p (y ∷ ys) x c h =
    elim (contains_cases y ys x c) [
      | inl e ↦ subst (λ b. Contains (cond b (y ∷ filter p ys) (filter p ys)) x) (sym (ap p e ∙ h)) (subst (Contains (y ∷ filter p ys)) e (contains_here y (filter p ys)))
      | inr t ↦ elim (p y) as (λ b. Contains (cond b (y ∷ filter p ys) (filter p ys)) x) [ true ↦ contains_later y (filter p ys) x (in_filter p ys x t h) | false ↦ in_filter p ys x t h ]
    ]

of_filter : (p : Pair → Bool) (xs : List Pair) (x : Pair) → Contains (filter p xs) x → Contains xs x × (p x ≡ true)
of_filter p xs x c = (
  subst (Contains xs) c.2 (All-filter p (Contains xs) xs (λ k d l. Contains-get_or xs k d l) c.0 x c.1),
  subst (λ y. p y ≡ true) c.2 (filter_passes p xs c.0 x c.1),
)

and_both : (a b : Bool) → (a && b) ≡ true → (a ≡ true) × (b ≡ true)
and_both true b h = (refl, h)
and_both false b h = absurd (false≢true h)

both_and : (a b : Bool) → a ≡ true → b ≡ true → (a && b) ≡ true
both_and a b h k = ap (λ t. t && b) h ∙ k

not_flips : (b : Bool) → not b ≡ true → b ≡ false
not_flips true h = absurd (false≢true h)
not_flips false h = refl

flips_not : (b : Bool) → b ≡ false → not b ≡ true
flips_not b h = ap (λ t. not t) h

is_free : (taken B : List Pair) → Pair → Bool
is_free taken B e = list_any (same_pair e) taken && not (list_any (same_pair e) B)

pub free_part : (S : List Point) (s : Sets) (B K : List Pair) → Agrees s K → IsBorderList S B → IsConvexPartition S K → AreDistinct K → (free : List Pair) × IsFreePart S s.taken free
unfolding is_free
free_part S s B K agrees border convex d = (
  filter (is_free s.taken B) K,
  record {
    distinct = AllPairs-filter (λ (x y : Pair). x ≢ y) (is_free s.taken B) K d;
    exact = λ e. (
      (λ c. let f : Contains K e × (is_free s.taken B e ≡ true) = of_filter (is_free s.taken B) K e c in
          let b : (list_any (same_pair e) s.taken ≡ true) × (not (list_any (same_pair e) B) ≡ true) = and_both (list_any (same_pair e) s.taken) (not (list_any (same_pair e) B)) f.1 in
          (contains_of_any same_pair same_pair_decides e s.taken b.0, not_border S B border e (convex.within e f.0) (not_flips (list_any (same_pair e) B) b.1))),
      (λ g. in_filter (is_free s.taken B) K e (agrees.taken e g.0)
          (both_and (list_any (same_pair e) s.taken) (not (list_any (same_pair e) B)) (any_of_contains same_pair same_pair_decides e s.taken g.0)
          (elim (list_any (same_pair e) B) as (λ t. list_any (same_pair e) B ≡ t → not t ≡ true) [
            | true ↦ λ h. absurd (g.1 (in_border S B border e (contains_of_any same_pair same_pair_decides e B h)))
            | false ↦ λ h. refl
          ] refl))),
    );
  },
)

-- No convex partition costs less than the least leaf value.
pub tree_bound : (S : List Point) → 3 ≤ length S → TreeBound S
tree_bound S many D nodes v B K border shows convex d =
    let t : Tree = shows.0 in
    let r : Reached S D K (leaves root t) = reached S D root t K shows.2 (nothing K) convex in
    let f : (free : List Pair) × IsFreePart S r.leaf.sets.taken free = free_part S r.leaf.sets B K r.agrees border convex d in
    let w : ℕ = leaf_value S D (total D B) r.leaf.prices.q r.leaf.prices.rows f.0 in
    let low : v ≤ w = shows.3.least r.leaf w r.among (f.0, f.1, refl) in
    let high : w ≤ total D K = leaf_bound S D r.leaf.sets r.leaf.prices.q r.leaf.prices.rows B f.0 K many r.prices f.1 r.agrees border convex d in
    omega (arith, low, high)

-- the search's end
pub least_is_cost : (S : List Point) → 3 ≤ length S → LeastIsCost S
least_is_cost S many D nodes v B K t border is right least convex d all =
    let low : v ≤ total D K = tree_bound S many D nodes v B K border (t, is, right, least) convex d in
    let a : Any (λ leaf. IsLeafValue S D (total D B) leaf v) (leaves root t) = least.is in
    let high : total D K ≤ v = all a.1 v (a.0, a.2, a.3) a.4 in
    omega (arith, low, high)
