-- Where the plain search ends at once: no point is inner, or the prices show what is known.
use Rattle.std.proofs.Common.{◌≡◌, ◌≢◌, ℕ, zero, suc, ◌+◌, ◌-◌, ◌<◌, ◌≤◌, inl, inr, List, [], ◌∷◌, length, ◌∙◌, ap, refl, arith}
use Rattle.std.specs.List.{Contains, sum_by}
use Rattle.std.specs.Int.{div_ceil}
use Rattle.plane.specs.declared.coordinates.Point.{Point}
use Rattle.plane.specs.declared.segment.Pair.{Pair}
use Rattle.plane.specs.Geometry.{IsInner}
use Rattle.partition_defs.specs.Partition.{IsMet, MeetsNeeds, IsConvexPartition}
use Rattle.price_defs.specs.declared.row.Certificate.{Certificate}
use Rattle.cost_defs.specs.Costs.{Costed}
use Rattle.price_defs.specs.Loads.{value, added, lost}
use Rattle.number_laws.proofs.ListSums.{contains_here}
use Rattle.tree_defs.specs.Leaves.{IsFreePart, IsLeafValue, leaf_value}
use Rattle.tree_defs.specs.Trees.{root}
use Rattle.tree_defs.specs.Full.{HasContradiction}
use Rattle.tree_defs.specs.Laws.{EndsAtOnce}
use Rattle.tree_defs.proofs.laws.Bound.{not_starved, nothing}

none_in : (e : Pair) → ¬ Contains [] e
none_in e c = omega (arith, c.1)

sound_root : (S : List Point) (K : List Pair) → IsConvexPartition S K → ¬ HasContradiction S root
sound_root S K convex (inl h) = none_in h.0 h.2
sound_root S K convex (inr (inl h)) = none_in h.0 h.1
sound_root S K convex (inr (inr h)) = not_starved S root K h.0 h.1 (nothing K) convex h.2

another : (n p : ℕ) → 3 ≤ n → (q : ℕ) × (q < n) × (q ≢ p)
another n zero h = (1, omega arith, λ e. absurd (omega arith))
another n (suc p) h = (0, omega arith, λ e. absurd (omega arith))

no_inner : (S : List Point) → 3 ≤ length S → MeetsNeeds S [] → (p : ℕ) → p < length S → ¬ IsInner S p
no_inner S many met p pn inner =
    let a : (q : ℕ) × (q < length S) × (q ≢ p) = another (length S) p many in
    let m : IsMet S [] p a.0 = met p pn inner a.0 a.1 a.2 in
    none_in m.2.1 (m.2.0, m.2.2, m.2.3)

empty_free : (S : List Point) (free : List Pair) → IsFreePart S [] free → free ≡ []
empty_free S [] part = refl
empty_free S (e ∷ es) part = absurd (none_in e (((part.exact e).0 (contains_here e es)).0))

zeros : (a b : ℕ) → (a + 0) - (b + 0) ≡ a - b
zeros a b = omega arith

bare : (S : List Point) (D : List Costed) (h : ℕ) (c : Certificate) → leaf_value S D h c.q c.rows [] ≡ value h c.q c.rows
bare S D h c = omega (arith, ap (λ n. div_ceil n c.q) (zeros (sum_by added c.rows) (sum_by lost c.rows)))

root_value : (S : List Point) (D : List Costed) (h v : ℕ) (c : Certificate) → IsLeafValue S D h (record { sets = root; prices = c }) v → v ≡ value h c.q c.rows
root_value S D h v c (free, part, is) = is ∙ ap (λ l. leaf_value S D h c.q c.rows l) (empty_free S free part) ∙ bare S D h c

pub ends_at_once : (S : List Point) → 3 ≤ length S → EndsAtOnce S
ends_at_once S many D h limit c K convex (inl x) = absurd (sound_root S K convex x)
ends_at_once S many D h limit c K convex (inr (inl x)) = inl (no_inner S many x)
ends_at_once S many D h limit c K convex (inr (inr (v, is, l))) = inr (omega (arith, l, root_value S D h v c is))
