-- A leaf has one value.
use Rattle.std.proofs.Common.{◌≡◌, ℕ, ◌+◌, ◌-◌, ◌≤◌, List, ap, arith}
use Rattle.std.specs.List.{sum_by}
use Rattle.std.specs.Int.{div_ceil}
use Rattle.plane.specs.declared.coordinates.Point.{Point}
use Rattle.plane.specs.declared.segment.Pair.{Pair}
use Rattle.price_defs.specs.declared.row.Row.{Row}
use Rattle.cost_defs.specs.Costs.{cost, total}
use Rattle.price_defs.specs.Loads.{gives, takes, added, lost}
use Rattle.number_laws.proofs.ListSums.{sum-part, outside}
use Rattle.price_defs.proofs.laws.Tests.{same_pair, same_pair_decides}
use Rattle.tree_defs.specs.Leaves.{IsFreePart}
use Rattle.tree_defs.specs.Laws.{LeafValueIsOne}

same_sum : (S : List Point) (A F G : List Pair) (f : Pair → ℕ) → IsFreePart S A F → IsFreePart S A G → sum_by f F ≡ sum_by f G
same_sum S A F G f x y =
    let h : sum_by f F + sum_by (outside same_pair f F) G ≤ sum_by f G = sum-part same_pair same_pair_decides f F G x.distinct (λ e c. (y.exact e).1 ((x.exact e).0 c)) in
    let k : sum_by f G + sum_by (outside same_pair f G) F ≤ sum_by f F = sum-part same_pair same_pair_decides f G F y.distinct (λ e c. (x.exact e).1 ((y.exact e).0 c)) in
    omega (arith, h, k)

pub leaf_value_once : (S : List Point) → LeafValueIsOne S
leaf_value_once S D h leaf v w (F, x, is_v) (G, y, is_w) =
    let q : ℕ = leaf.prices.q in
    let rows : List Row = leaf.prices.rows in
    let c : total D F ≡ total D G = same_sum S leaf.sets.taken F G (λ e. cost D e.lo e.hi) x y in
    let t : sum_by (λ (e : Pair). takes rows e.lo e.hi) F ≡ sum_by (λ (e : Pair). takes rows e.lo e.hi) G = same_sum S leaf.sets.taken F G (λ e. takes rows e.lo e.hi) x y in
    let g : sum_by (λ (e : Pair). gives S rows e.lo e.hi) F ≡ sum_by (λ (e : Pair). gives S rows e.lo e.hi) G = same_sum S leaf.sets.taken F G (λ e. gives S rows e.lo e.hi) x y in
    let d : div_ceil ((sum_by added rows + sum_by (λ (e : Pair). takes rows e.lo e.hi) F) - (sum_by lost rows + sum_by (λ (e : Pair). gives S rows e.lo e.hi) F)) q
    ≡ div_ceil ((sum_by added rows + sum_by (λ (e : Pair). takes rows e.lo e.hi) G) - (sum_by lost rows + sum_by (λ (e : Pair). gives S rows e.lo e.hi) G)) q =
    ap (λ n. div_ceil n q) (omega (arith, t, g)) in
    omega (arith, is_v, is_w, c, d)
