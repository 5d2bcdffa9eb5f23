-- What a leaf with prices shows: weak duality, where some segments are taken and some are barred.
use Rattle.std.proofs.Common.{◌≡◌, ℕ, ◌+◌, ◌-◌, ◌*◌, ◌<◌, ◌≤◌, inl, List, length, Bool, true, false, cond, sym, ◌∙◌, refl, subst, arith}
use Rattle.std.specs.Prelude.{pos, ◌≤ℤ◌}
use Rattle.std.specs.List.{Contains, sum_by, list_any}
use Rattle.std.specs.Int.{div_ceil}
use Rattle.std.proofs.lemmas.Bool.{false≢true}
use Rattle.std.proofs.lemmas.Int.{ints}
use Rattle.plane.specs.declared.coordinates.Point.{Point}
use Rattle.plane.specs.declared.segment.Pair.{Pair}
use Rattle.plane.specs.Geometry.{IsBorderPair}
use Rattle.partition_defs.specs.Partition.{Joins, IsConvexPartition}
use Rattle.partition_defs.specs.Triangulation.{AreDistinct, IsBorderList}
use Rattle.price_defs.specs.declared.row.Row.{Row}
use Rattle.cost_defs.specs.Costs.{Costed, cost, total}
use Rattle.price_defs.specs.Loads.{gives, takes, load, added, lost}
use Rattle.number_laws.proofs.ListSums.{sum-add, sum-scale, sum-le_on, sum-part, outside}
use Rattle.price_defs.proofs.laws.Tests.{same_pair, same_pair_decides}
use Rattle.price_defs.proofs.laws.Counted.{ends_same, all_had, all_off, border_free}
use Rattle.price_defs.proofs.laws.Duality.{ceil-le, border_in}
use Rattle.tree_defs.specs.Leaves.{Sets, ArePrices, IsFreePart, leaf_value}
use Rattle.tree_defs.proofs.laws.Parts.{within, sum-within, contains_of_any, any_of_contains}

-- the convex partition has all taken segments, and no barred one
pub record Agrees (s : Sets) (K : List Pair) : Type 0 where
  pub taken : (e : Pair) → Contains s.taken e → Contains K e
  pub barred : (e : Pair) → Contains s.barred e → ¬ Contains K e

among : Pair → List Pair → Bool
among e B = list_any (same_pair e) B

-- the cost of a segment that is neither a border pair nor free
abbrev rest : List Costed → (B free : List Pair) → Pair → ℕ
rest D B free = outside same_pair (outside same_pair (λ (x : Pair). cost D x.lo x.hi) B) free

-- a segment of the border list is a border pair, and the other way round
pub in_border : (S : List Point) (B : List Pair) → IsBorderList S B → (e : Pair) → Contains B e → IsBorderPair S e.lo e.hi
in_border S B border e c = (border.exact e.lo e.hi e.ordered (border.within e c)).0 (c.0, e, c.1, c.2, inl (refl, refl))

pub not_border : (S : List Point) (B : List Pair) → IsBorderList S B → (e : Pair) → e.hi < length S → list_any (same_pair e) B ≡ false → ¬ IsBorderPair S e.lo e.hi
not_border S B border e n h is =
    let j : Joins B e.lo e.hi = (border.exact e.lo e.hi e.ordered n).1 is in
    false≢true (sym h ∙ any_of_contains same_pair same_pair_decides e B (subst (Contains B) (ends_same j.1 e j.4) (j.0, j.2, j.3)))

-- what a segment of the convex partition has is at most what is allowed, what is taken off, and what it has as a free one
allowed_at : (S : List Point) (D : List Costed) (s : Sets) (q : ℕ) (rows : List Row) (B free K : List Pair)
    → ArePrices S D s q rows → IsFreePart S s.taken free → Agrees s K → IsBorderList S B → IsConvexPartition S K → (e : Pair) → Contains K e
    → gives S rows e.lo e.hi + within same_pair (λ (x : Pair). takes rows x.lo x.hi) free e
    ≤ q * rest D B free e + (takes rows e.lo e.hi + within same_pair (λ (x : Pair). gives S rows x.lo x.hi) free e)
allowed_at S D s q rows B free K prices part agrees border convex e c =
    let n : e.hi < length S = convex.within e c in
    elim (list_any (same_pair e) free) as (λ t. list_any (same_pair e) free ≡ t → gives S rows e.lo e.hi + cond t (takes rows e.lo e.hi) 0
    ≤ q * cond t 0 (outside same_pair (λ (x : Pair). cost D x.lo x.hi) B e) + (takes rows e.lo e.hi + cond t (gives S rows e.lo e.hi) 0)) [
      | true ↦ λ h. omega arith
      | false ↦ λ h. elim (list_any (same_pair e) B) as (λ t. list_any (same_pair e) B ≡ t → gives S rows e.lo e.hi + 0 ≤ q * cond t 0 (cost D e.lo e.hi) + (takes rows e.lo e.hi + 0)) [
        | true ↦ λ g. omega (arith, border_free S rows e.lo e.hi prices.right (in_border S B border e (contains_of_any same_pair same_pair_decides e B g)) e.ordered n)
        | false ↦ λ g. (let off : ¬ IsBorderPair S e.lo e.hi = not_border S B border e n g in
            let new : ¬ Contains s.taken e = λ t. false≢true (sym h ∙ any_of_contains same_pair same_pair_decides e free ((part.exact e).1 (t, off))) in
            let l : load S rows e.lo e.hi ≤ℤ pos (q * cost D e.lo e.hi) = prices.loads e n (convex.clear e c) off new (λ b. agrees.barred e b c) in
            omega (arith, ints))
      ] refl
    ] refl

-- a part of the sum over K, and what is left of it
parts_cost : (S : List Point) (D : List Costed) (s : Sets) (B free K : List Pair)
    → IsFreePart S s.taken free → Agrees s K → IsBorderList S B → IsConvexPartition S K
    → total D B + total D free + sum_by (rest D B free) K ≤ total D K
parts_cost S D s B free K part agrees border convex =
    let f : Pair → ℕ = λ x. cost D x.lo x.hi in
    let g : Pair → ℕ = outside same_pair f B in
    let first : sum_by f B + sum_by g K ≤ sum_by f K = sum-part same_pair same_pair_decides f B K border.distinct (border_in S B K border convex) in
    let second : sum_by g free + sum_by (outside same_pair g free) K ≤ sum_by g K =
    sum-part same_pair same_pair_decides g free K part.distinct (λ e c. agrees.taken e (((part.exact e).0 c).0)) in
    let third : sum_by f free ≤ sum_by g free = sum-le_on f g free
    (λ e c. elim (list_any (same_pair e) B) as (λ t. list_any (same_pair e) B ≡ t → f e ≤ cond t 0 (f e)) [
      | true ↦ λ h. absurd (((part.exact e).0 c).1 (in_border S B border e (contains_of_any same_pair same_pair_decides e B h)))
      | false ↦ λ h. omega arith
    ] refl) in
    omega (arith, first, second, third)

-- the sum of the rows, over the segments of K
sum_at_leaf : (S : List Point) (D : List Costed) (s : Sets) (q : ℕ) (rows : List Row) (B free K : List Pair)
    → 3 ≤ length S → ArePrices S D s q rows → IsFreePart S s.taken free → Agrees s K → IsBorderList S B → IsConvexPartition S K → AreDistinct K
    → sum_by added rows + sum_by (λ (e : Pair). takes rows e.lo e.hi) free
    ≤ q * sum_by (rest D B free) K + (sum_by lost rows + sum_by (λ (e : Pair). gives S rows e.lo e.hi) free)
sum_at_leaf S D s q rows B free K many prices part agrees border convex d =
    let give : Pair → ℕ = λ e. gives S rows e.lo e.hi in
    let off : Pair → ℕ = λ e. takes rows e.lo e.hi in
    let r : Pair → ℕ = rest D B free in
    let a : sum_by added rows ≤ sum_by give K = all_had S K rows many convex.needs prices.right in
    let b : sum_by off K ≤ sum_by lost rows = all_off S K rows d convex.plane prices.right in
    let each : sum_by (λ e. give e + within same_pair off free e) K ≤ sum_by (λ e. q * r e + (off e + within same_pair give free e)) K =
    sum-le_on (λ e. give e + within same_pair off free e) (λ e. q * r e + (off e + within same_pair give free e)) K
    (allowed_at S D s q rows B free K prices part agrees border convex) in
    let left : sum_by (λ e. give e + within same_pair off free e) K ≡ sum_by give K + sum_by (within same_pair off free) K = sum-add give (within same_pair off free) K in
    let right : sum_by (λ e. q * r e + (off e + within same_pair give free e)) K ≡ sum_by (λ e. q * r e) K + sum_by (λ e. off e + within same_pair give free e) K =
    sum-add (λ e. q * r e) (λ e. off e + within same_pair give free e) K in
    let more : sum_by (λ e. off e + within same_pair give free e) K ≡ sum_by off K + sum_by (within same_pair give free) K = sum-add off (within same_pair give free) K in
    let scale : sum_by (λ e. q * r e) K ≡ q * sum_by r K = sum-scale q r K in
    let most : sum_by (within same_pair give free) K + sum_by (outside same_pair give K) free ≤ sum_by give free = sum-within same_pair same_pair_decides give free K d in
    let some : sum_by off free + sum_by (outside same_pair off free) K ≤ sum_by off K =
    sum-part same_pair same_pair_decides off free K part.distinct (λ e c. agrees.taken e (((part.exact e).0 c).0)) in
    let split : sum_by off K ≡ sum_by (within same_pair off free) K + sum_by (outside same_pair off free) K = split_sum off free K in
    omega (arith, a, b, each, left, right, more, scale, most, some, split)
  where
    split_sum : (f : Pair → ℕ) (F L : List Pair) → sum_by f L ≡ sum_by (within same_pair f F) L + sum_by (outside same_pair f F) L
    split_sum f F L =
        let x : sum_by f L ≤ sum_by (λ e. within same_pair f F e + outside same_pair f F e) L = sum-le_on f (λ e. within same_pair f F e + outside same_pair f F e) L
        (λ e c. elim (list_any (same_pair e) F) as (λ t. f e ≤ cond t (f e) 0 + cond t 0 (f e)) [ true ↦ omega arith | false ↦ omega arith ]) in
        let y : sum_by (λ e. within same_pair f F e + outside same_pair f F e) L ≤ sum_by f L = sum-le_on (λ e. within same_pair f F e + outside same_pair f F e) f L
        (λ e c. elim (list_any (same_pair e) F) as (λ t. cond t (f e) 0 + cond t 0 (f e) ≤ f e) [ true ↦ omega arith | false ↦ omega arith ]) in
        omega (arith, x, y, sum-add (within same_pair f F) (outside same_pair f F) L)

-- A leaf's value is at most the cost of each convex partition that has the taken segments and no barred one.
pub leaf_bound : (S : List Point) (D : List Costed) (s : Sets) (q : ℕ) (rows : List Row) (B free K : List Pair)
    → 3 ≤ length S → ArePrices S D s q rows → IsFreePart S s.taken free → Agrees s K → IsBorderList S B → IsConvexPartition S K → AreDistinct K
    → leaf_value S D (total D B) q rows free ≤ total D K
leaf_bound S D s q rows B free K many prices part agrees border convex d =
    let up : ℕ = sum_by added rows + sum_by (λ (e : Pair). takes rows e.lo e.hi) free in
    let down : ℕ = sum_by lost rows + sum_by (λ (e : Pair). gives S rows e.lo e.hi) free in
    let h : up ≤ q * sum_by (rest D B free) K + down = sum_at_leaf S D s q rows B free K many prices part agrees border convex d in
    let c : div_ceil (up - down) q ≤ sum_by (rest D B free) K = ceil-le (up - down) q (sum_by (rest D B free) K) prices.divisor (omega (arith, h)) in
    omega (arith, c, parts_cost S D s B free K part agrees border convex)
