-- For private clauses.
-- Tables of the loads of all pairs.
use Rattle.std.specs.Prelude.{◌≡◌, ◌≢◌, ℕ, zero, suc, ◌+◌, ◌<◌, ◌≤◌, min, max, List, length, set, slice_index_or, cond, ℤ, pos, neg_ℤ, ◌+ℤ◌, ◌-ℤ◌, ◌≤ℤ◌}
use Rattle.plane.specs.declared.coordinates.Point.{Point}
use Rattle.plane.specs.declared.segment.Pair.{Pair}
use Rattle.price_defs.specs.declared.row.Row.{Row}
use Rattle.price_defs.specs.declared.row.TheConstants.{MOST_ROWS}
use Rattle.price_defs.specs.Rows.{AreRight, counts, lessens}
use Rattle.price_defs.specs.Limits.{AreLight}
use Rattle.price_defs.specs.Loads.{load}

-- the number of pairs of n points
abbrev pub tri : ℕ → ℕ
tri zero = 0
tri (suc n) = tri n + n

-- the place of the pair i-j, i < j, in the table
abbrev pub slot : (i j : ℕ) → ℕ
slot i j = tri j + i

abbrev pub entry : List ℤ → ℕ → ℤ
entry table k = slice_index_or table k (pos 0)

-- the table's entry for two different points, either way round
abbrev pub at : List ℤ → (i j : ℕ) → ℤ
at table i j = entry table (slot (min i j) (max i j))

-- a number is not near the limits of 64 bits
abbrev pub IsSmall : ℤ → Type 0
IsSmall x = (neg_ℤ (pos 500000000000000000) ≤ℤ x) × (x ≤ℤ pos 500000000000000000)

-- no entry of a pair of n points is near the limits
abbrev pub AreSmall : ℕ → List ℤ → Type 0
AreSmall n table =
    (i j : ℕ) → i < j → j < n → (neg_ℤ (pos 400000000000000000) ≤ℤ entry table (slot i j)) × (entry table (slot i j) ≤ℤ pos 400000000000000000)

abbrev pub IsStep : ℤ → Type 0
IsStep by = (neg_ℤ (pos 1000000000000) ≤ℤ by) × (by ≤ℤ pos 1000000000000)

-- the pair's entry has changed by so much
abbrev pub IsShifted : List ℤ → Pair → ℤ → List ℤ → Type 0
IsShifted old e by new = new ≡ set old (slot e.lo e.hi) (entry old (slot e.lo e.hi) +ℤ by)

-- what a weight of the row adds to the load of i-j
abbrev pub change : List Point → Row → ℤ → (i j : ℕ) → ℤ
change S row by i j = cond (counts S row i j) by (pos 0) -ℤ cond (lessens row i j) by (pos 0)

-- the entries of the pairs at p with the points below k are those after the row was added, all others as before
pub record IsPartlyAdded (S : List Point) (row : Row) (p : ℕ) (by : ℤ) (k : ℕ) (old new : List ℤ) : Type 0 where
  pub count : length new ≡ length old
  pub done : (r : ℕ) → r < k → r < length S → r ≢ p → at new p r ≡ (at old p r +ℤ cond (counts S row p r) by (pos 0))
  pub left : (r : ℕ) → k ≤ r → r < length S → r ≢ p → at new p r ≡ at old p r
  pub rest : (i j : ℕ) → i ≢ p → j ≢ p → i < j → j < length S → at new i j ≡ at old i j

-- the row was added to all loads
pub record IsRowAdded (S : List Point) (row : Row) (by : ℤ) (old new : List ℤ) : Type 0 where
  pub count : length new ≡ length old
  pub each : (i j : ℕ) → i < j → j < length S → entry new (slot i j) ≡ (entry old (slot i j) +ℤ change S row by i j)

-- the table has the loads of all pairs
pub record IsTableOf (S : List Point) (rows : List Row) (table : List ℤ) : Type 0 where
  pub count : length table ≡ tri (length S)
  pub each : (i j : ℕ) → i < j → j < length S → entry table (slot i j) ≡ load S rows i j

-- what holds of a certificate that is kept with its loads
pub record IsLoaded (S : List Point) (rows : List Row) (table : List ℤ) : Type 0 where
  pub right : AreRight S rows
  pub few : length rows ≤ MOST_ROWS
  pub light : AreLight rows
  pub loads : IsTableOf S rows table
