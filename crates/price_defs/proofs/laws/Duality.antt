-- Weak duality.
use Rattle.std.proofs.Common.{◌≡◌, ℕ, ◌+◌, ◌-◌, ◌*◌, ◌<◌, ◌≤◌, inl, List, length, true, false, cond, sym, ◌∙◌, refl, subst, arith}
use Rattle.std.specs.Prelude.{pos, ◌≤ℤ◌}
use Rattle.std.specs.List.{Any, Contains, sum_by, list_any}
use Rattle.std.specs.Int.{div_ceil}
use Rattle.std.proofs.lemmas.Bool.{false≢true}
use Rattle.std.proofs.lemmas.Int.{ints}
use Rattle.std.proofs.lemmas.Grind.{div_ceil_times}
use Rattle.std.proofs.lemmas.List.Folds.{Any-from_list_any, list_any-from_Any}
use Rattle.std.proofs.Math.Nat.{lt_of_mul-lt-mul_left, mul_comm}
use Rattle.plane.specs.declared.coordinates.Point.{Point}
use Rattle.plane.specs.declared.segment.Pair.{Pair}
use Rattle.plane.specs.Geometry.{IsBorderPair}
use Rattle.partition_defs.specs.Partition.{HasEnds, Joins, IsConvexPartition}
use Rattle.partition_defs.specs.Triangulation.{AreDistinct, IsBorderList}
use Rattle.price_defs.specs.declared.row.Row.{Row}
use Rattle.cost_defs.specs.Costs.{Costed, cost, total}
use Rattle.price_defs.specs.Loads.{gives, takes, load, IsValid, added, lost}
use Rattle.price_defs.specs.Duality.{NoneIsCheaper}
use Rattle.number_laws.proofs.ListSums.{sum-add, sum-scale, sum-le_on, sum-part, outside}
use Rattle.price_defs.proofs.laws.Tests.{same_pair, same_pair_decides}
use Rattle.price_defs.proofs.laws.Counted.{ends_same, all_had, all_off, border_free}

-- a quotient that is rounded up is the least number that is enough
pub ceil-le : (x q c : ℕ) → 0 < q → x ≤ q * c → div_ceil x q ≤ c
ceil-le x q c h k =
    let m : q * div_ceil x q < q * (c + 1) = omega (arith, (div_ceil_times x q h).1, mul_comm q (div_ceil x q)) in
    let l : div_ceil x q < c + 1 = lt_of_mul-lt-mul_left q m in omega arith

-- a pair of the border list is one of the convex partition
pub border_in : (S : List Point) (B K : List Pair) → IsBorderList S B → IsConvexPartition S K → (b : Pair) → Contains B b → Contains K b
border_in S B K border convex b c =
    let j : Joins B b.lo b.hi = (c.0, b, c.1, c.2, inl (refl, refl)) in
    let is : IsBorderPair S b.lo b.hi = (border.exact b.lo b.hi b.ordered (border.within b c)).0 j in
    let a : Any (λ (e : Pair). HasEnds e b.lo b.hi) K = convex.border b.lo b.hi b.ordered (border.within b c) is in
    subst (Contains K) (ends_same a.1 b a.4) (a.0, a.2, a.3)

-- what a pair of a convex partition has of the rows is at most what is allowed and what is lessened off; border pairs have nothing
pub allowed : (S : List Point) (D : List Costed) (q : ℕ) (rows : List Row) (B K : List Pair)
    → IsValid S D q rows → IsBorderList S B → IsConvexPartition S K → (e : Pair) → Contains K e
    → gives S rows e.lo e.hi ≤ q * outside same_pair (λ (x : Pair). cost D x.lo x.hi) B e + takes rows e.lo e.hi
allowed S D q rows B K valid border convex e c =
    let n : e.hi < length S = convex.within e c in
    elim (list_any (same_pair e) B) as (λ t. list_any (same_pair e) B ≡ t → gives S rows e.lo e.hi ≤ q * cond t 0 (cost D e.lo e.hi) + takes rows e.lo e.hi) [
      | true ↦ λ h. (let a : Any (λ (y : Pair). same_pair e y ≡ true) B = Any-from_list_any (same_pair e) B h in
          let same : e ≡ a.1 = (same_pair_decides e a.1).0 a.4 in
          let cb : Contains B e = subst (Contains B) (sym same) (a.0, a.2, a.3) in
          let j : Joins B e.lo e.hi = (cb.0, e, cb.1, cb.2, inl (refl, refl)) in
          let is : IsBorderPair S e.lo e.hi = (border.exact e.lo e.hi e.ordered n).0 j in
          omega (arith, border_free S rows e.lo e.hi valid.right is e.ordered n))
      | false ↦ λ h. (let free : ¬ IsBorderPair S e.lo e.hi = λ is.
          (let j : Joins B e.lo e.hi = (border.exact e.lo e.hi e.ordered n).1 is in
          false≢true (sym h ∙ list_any-from_Any (same_pair e) B (j.0, j.1, j.2, j.3, (same_pair_decides e j.1).1 (sym (ends_same j.1 e j.4))))) in
          let l : load S rows e.lo e.hi ≤ℤ pos (q * cost D e.lo e.hi) = valid.loads e.lo e.hi e.ordered n (convex.clear e c) free in
          omega (arith, ints))
    ] refl

-- the rows' sum is at most what the pairs other than border pairs cost, and what is lessened off
pub sum_allowed : (S : List Point) (D : List Costed) (q : ℕ) (rows : List Row) (B K : List Pair)
    → 3 ≤ length S → IsValid S D q rows → IsBorderList S B → IsConvexPartition S K → AreDistinct K
    → sum_by added rows ≤ q * sum_by (outside same_pair (λ (x : Pair). cost D x.lo x.hi) B) K + sum_by lost rows
sum_allowed S D q rows B K many valid border convex d =
    let f : Pair → ℕ = outside same_pair (λ (x : Pair). cost D x.lo x.hi) B in
    omega (
      arith,
      all_had S K rows many convex.needs valid.right,
      sum-le_on (λ (e : Pair). gives S rows e.lo e.hi) (λ (e : Pair). q * f e + takes rows e.lo e.hi) K (allowed S D q rows B K valid border convex),
      sum-add (λ (e : Pair). q * f e) (λ (e : Pair). takes rows e.lo e.hi) K,
      sum-scale q f K,
      all_off S K rows d convex.plane valid.right,
    )

pub none_is_cheaper : (S : List Point) → 3 ≤ length S → NoneIsCheaper S
none_is_cheaper S many D q rows B K valid border convex d =
    let f : Pair → ℕ = λ x. cost D x.lo x.hi in
    let part : sum_by f B + sum_by (outside same_pair f B) K ≤ sum_by f K =
    sum-part same_pair same_pair_decides f B K border.distinct (border_in S B K border convex) in
    let s : sum_by added rows ≤ q * sum_by (outside same_pair f B) K + sum_by lost rows = sum_allowed S D q rows B K many valid border convex d in
    let c : div_ceil (sum_by added rows - sum_by lost rows) q ≤ sum_by (outside same_pair f B) K =
    ceil-le (sum_by added rows - sum_by lost rows) q (sum_by (outside same_pair f B) K) valid.divisor (omega arith) in
    omega arith

among_lists : (S : List Point) (A B : List Pair) → IsBorderList S A → IsBorderList S B → (e : Pair) → Contains A e → Contains B e
among_lists S A B a b e c =
    let n : e.hi < length S = a.within e c in
    let is : IsBorderPair S e.lo e.hi = (a.exact e.lo e.hi e.ordered n).0 (c.0, e, c.1, c.2, inl (refl, refl)) in
    let j : Joins B e.lo e.hi = (b.exact e.lo e.hi e.ordered n).1 is in
    subst (Contains B) (ends_same j.1 e j.4) (j.0, j.2, j.3)

-- The cost of the border pairs doesn't depend on their list.
pub border_cost_once : (S : List Point) (D : List Costed) (A B : List Pair) → IsBorderList S A → IsBorderList S B → total D A ≡ total D B
border_cost_once S D A B a b =
    let f : Pair → ℕ = λ x. cost D x.lo x.hi in
    let h : sum_by f A + sum_by (outside same_pair f A) B ≤ sum_by f B = sum-part same_pair same_pair_decides f A B a.distinct (among_lists S A B a b) in
    let k : sum_by f B + sum_by (outside same_pair f B) A ≤ sum_by f A = sum-part same_pair same_pair_decides f B A b.distinct (among_lists S B A b a) in
    omega arith
