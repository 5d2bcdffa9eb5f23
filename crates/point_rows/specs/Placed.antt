-- The rows of a certificate by the points at which they stand.
use Rattle.std.specs.Prelude.{◌≡◌, ℕ, ◌+◌, ◌<◌, ◌≤◌, List, length, take, set, slice_index_or, Option, Some, None, true, false, cond}
use Rattle.std.specs.List.{sum_by}
use Rattle.plane.specs.declared.coordinates.Point.{Point}
use Rattle.plane.specs.declared.segment.Pair.{Pair}
use Rattle.price_defs.specs.declared.row.Row.{Row}
use Rattle.price_defs.specs.declared.row.TheConstants.{MOST_ROWS}
use Rattle.price_defs.specs.Rows.{AreRight, is_at, row_at}
use Rattle.price_defs.specs.Limits.{AreLight}
use Rattle.price_defs.specs.Loads.{given, takes}
use Rattle.point_rows.specs.Takers.{taken}

-- right rows for a list of points
pub record Placed : Type 0 where
  pub points : List Point
  pub rows : List Row

-- the last row at p, or none
abbrev pub IsLastAt : List Row → ℕ → Option ℕ → Type 0
IsLastAt rows p None = (k : ℕ) → k < length rows → is_at p (row_at rows k) ≡ false
IsLastAt rows p (Some k) =
    (k < length rows) × (is_at p (row_at rows k) ≡ true) × ((j : ℕ) → k < j → j < length rows → is_at p (row_at rows j) ≡ false)

-- the entry at a position of a list of positions
abbrev pub entry : List (Option ℕ) → ℕ → Option ℕ
entry list k = slice_index_or list k None

-- the place of the list that belongs to a row's stand, and the list with k there
abbrev pub at_stand : List (Option ℕ) → Option ℕ → Option ℕ
at_stand list None = None
at_stand list (Some p) = entry list p

abbrev pub noted : List (Option ℕ) → Option ℕ → ℕ → List (Option ℕ)
noted list None k = list
noted list (Some p) k = set list p (Some k)

-- last has for each point the last row at it, and before for each row the row before it at its point
pub record IsLinked (rows : List Row) (last before : List (Option ℕ)) : Type 0 where
  pub count : length before ≡ length rows
  pub ends : (p : ℕ) → p < length last → IsLastAt rows p (entry last p)
  pub links : (k p : ℕ) → k < length rows → is_at p (row_at rows k) ≡ true → IsLastAt (take k rows) p (entry before k)

-- what the rows at p give to the pair p-r
abbrev pub given_at : List Point → (p r : ℕ) → Row → ℕ
given_at S p r row = cond (is_at p row) (given S p r row) 0

abbrev pub gives_at : List Point → List Row → (p r : ℕ) → ℕ
gives_at S rows p r = sum_by (given_at S p r) rows

-- where the rows up to and with the named one end
abbrev pub end_of : Option ℕ → ℕ
end_of None = 0
end_of (Some k) = k + 1

-- what holds of rows that are kept by point
pub record IsKept (S : List Point) (rows : List Row) (last before : List (Option ℕ)) (T : List (Pair × ℕ)) : Type 0 where
  pub right : AreRight S rows
  pub few : length rows ≤ MOST_ROWS
  pub light : AreLight rows
  pub linked : IsLinked rows last before
  pub points : length last ≡ length S
  pub takers : (i j : ℕ) → taken T i j ≡ takes rows i j
