-- The statements of the laws behind weak duality.
use Rattle.std.specs.Prelude.{◌≡◌, ◌≢◌, ℕ, ◌+◌, ◌*◌, ◌<◌, ◌≤◌, List, length}
use Rattle.std.specs.List.{sum_by}
use Rattle.plane.specs.declared.coordinates.Point.{Point}
use Rattle.plane.specs.declared.segment.Pair.{Pair}
use Rattle.plane.specs.Geometry.{IsClear, IsBorderPair, IsInner}
use Rattle.partition_defs.specs.Partition.{Joins, IsConvexPartition}
use Rattle.partition_defs.specs.Triangulation.{AreDistinct}
use Rattle.cost_defs.specs.Costs.{Costed, cost}
use Rattle.price_defs.specs.declared.row.Row.{Row}
use Rattle.price_defs.specs.Rows.{IsAlone, IsRight, AreRight, Counts}
use Rattle.price_defs.specs.Loads.{given, lessened, gives, takes, added, lost}
use Rattle.price_defs.specs.Tight.{IsAtPoint}

-- three pairs at p
pub record HasThree (K : List Pair) (p : ℕ) : Type 0 where
  pub a : ℕ
  pub b : ℕ
  pub c : ℕ
  pub at_a : Joins K p a
  pub at_b : Joins K p b
  pub at_c : Joins K p c
  pub ab : a ≢ b
  pub bc : b ≢ c
  pub ac : a ≢ c

-- An inner point that is strictly between no two points has three pairs in each convex partition.
abbrev pub AloneHasThree : List Point → Type 0
AloneHasThree S = (K : List Pair) (p : ℕ) → IsConvexPartition S K → p < length S → IsInner S p → IsAlone S p → HasThree K p

-- what the listed pairs have of a row, and what they lose by it
abbrev pub had : List Point → Row → List Pair → ℕ
had S row K = sum_by (λ (e : Pair). given S e.lo e.hi row) K

abbrev pub off : Row → List Pair → ℕ
off row K = sum_by (λ (e : Pair). lessened e.lo e.hi row) K

-- Of a right row the pairs of a convex partition have at least once, or three times, the weight, and lose at most once.
abbrev pub RowIsHad : List Point → Type 0
RowIsHad S = (K : List Pair) (row : Row) → IsConvexPartition S K → AreDistinct K → IsRight S row → (added row ≤ had S row K) × (off row K ≤ lost row)

-- No right row counts a border pair, so that none has more than is allowed.
abbrev pub BorderIsFree : List Point → Type 0
BorderIsFree S = (D : List Costed) (q : ℕ) (rows : List Row) (i j : ℕ) → AreRight S rows → IsBorderPair S i j → i < j → j < length S
    → (gives S rows i j ≡ 0) × (gives S rows i j ≤ q * cost D i j + takes rows i j)

-- a clear pair that the row counts
pub record CountsSome (S : List Point) (row : Row) : Type 0 where
  pub i : ℕ
  pub j : ℕ
  pub ordered : i < j
  pub within : j < length S
  pub clear : IsClear S i j
  pub counted : Counts S row i j

-- Each right Half or Three row counts a clear pair.
abbrev pub RowCountsSome : List Point → Type 0
RowCountsSome S = (row : Row) → IsRight S row → IsAtPoint row → CountsSome S row
