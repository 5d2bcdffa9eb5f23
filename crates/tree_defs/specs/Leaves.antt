-- The leaves of a branch tree: what is right where some segments are taken and some are barred. (This project's own, after branch and bound.)
use Rattle.std.specs.Prelude.{◌≡◌, ◌≢◌, ◌↔◌, ℕ, ◌+◌, ◌-◌, ◌*◌, ◌<◌, ◌≤◌, ◌⊎◌, List, length, pos, ◌≤ℤ◌}
use Rattle.std.specs.Int.{div_ceil}
use Rattle.std.specs.List.{All, Contains, sum_by}
use Rattle.plane.specs.declared.coordinates.Point.{Point}
use Rattle.plane.specs.declared.segment.Pair.{Pair}
use Rattle.plane.specs.Geometry.{IsClear, AreCrossing, IsBorderPair, IsInner, IsInNeed}
use Rattle.partition_defs.specs.Partition.{Joins}
use Rattle.partition_defs.specs.Triangulation.{AreDistinct}
use Rattle.price_defs.specs.declared.row.Row.{Row}
use Rattle.price_defs.specs.declared.row.Certificate.{Certificate}
use Rattle.cost_defs.specs.Costs.{Costed, cost, total}
use Rattle.price_defs.specs.Rows.{AreRight, weight}
use Rattle.price_defs.specs.Loads.{gives, takes, load, added, lost}
use Rattle.price_defs.specs.declared.row.TheConstants.{MOST_DIVISOR}
use Rattle.tree_defs.specs.declared.node.TheConstants.{MOST_LEAF_ROWS, MOST_LEAF_WEIGHT}

-- the sets of a node
pub record Sets : Type 0 where
  pub taken : List Pair
  pub barred : List Pair

abbrev pub sets : (taken barred : List Pair) → Sets
sets a b = record { taken = a; barred = b }

-- the segment i-j crosses one of the list
abbrev pub CrossesSome : List Point → List Pair → (i j : ℕ) → Type 0
CrossesSome S A i j = (f : Pair) × Contains A f × AreCrossing S i j f.lo f.hi

-- the clear segment p-r is lost where it is barred or crosses a taken one
abbrev pub IsLost : List Point → Sets → (p r : ℕ) → Type 0
IsLost S s p r = Joins s.barred p r ⊎ CrossesSome S s.taken p r

-- no segment is left that could meet the need of p for q
pub record IsStarved (S : List Point) (s : Sets) (p q : ℕ) : Type 0 where
  pub within : p < length S
  pub other : q < length S
  pub apart : p ≢ q
  pub inner : IsInner S p
  pub all : (r : ℕ) → r < length S → IsClear S p r → IsInNeed S p q r → IsLost S s p r

-- right rows that load no segment too much which is neither taken nor barred, nor a border pair
pub record ArePrices (S : List Point) (D : List Costed) (s : Sets) (q : ℕ) (rows : List Row) : Type 0 where
  pub divisor : 0 < q
  pub small : q ≤ MOST_DIVISOR
  pub few : length rows ≤ MOST_LEAF_ROWS
  pub light : All (λ row. weight row ≤ MOST_LEAF_WEIGHT) rows
  pub right : AreRight S rows
  pub loads : (e : Pair) → e.hi < length S → IsClear S e.lo e.hi → ¬ IsBorderPair S e.lo e.hi → ¬ Contains s.taken e → ¬ Contains s.barred e
      → load S rows e.lo e.hi ≤ℤ pos (q * cost D e.lo e.hi)

-- free lists the taken segments that aren't border pairs, each once
pub record IsFreePart (S : List Point) (taken free : List Pair) : Type 0 where
  pub distinct : AreDistinct free
  pub exact : (e : Pair) → Contains free e ↔ (Contains taken e × ¬ IsBorderPair S e.lo e.hi)

-- The value of a leaf with prices: the border pairs cost h, and the loads of the free taken segments are taken off. The
-- quotient is rounded up, and is 0 where the sum is negative.
abbrev pub leaf_value : List Point → List Costed → (h q : ℕ) → List Row → List Pair → ℕ
leaf_value S D h q rows free =
    h + total D free
    + div_ceil ((sum_by added rows + sum_by (λ (e : Pair). takes rows e.lo e.hi) free) - (sum_by lost rows + sum_by (λ (e : Pair). gives S rows e.lo e.hi) free)) q

-- a leaf with prices, and its sets
pub record Leaf : Type 0 where
  pub sets : Sets
  pub prices : Certificate

-- v is the leaf's value
abbrev pub IsLeafValue : List Point → List Costed → ℕ → Leaf → ℕ → Type 0
IsLeafValue S D h leaf v = (free : List Pair) × IsFreePart S leaf.sets.taken free × (v ≡ leaf_value S D h leaf.prices.q leaf.prices.rows free)
