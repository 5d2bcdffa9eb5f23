-- A row that is raised, and the pair with which it is full.
use Rattle.std.specs.Prelude.{◌≡◌, ◌≢◌, ℕ, ◌*◌, ◌<◌, List, length, set, slice_index_or, Some, pos}
use Rattle.plane.specs.declared.coordinates.Point.{Point}
use Rattle.plane.specs.Geometry.{IsClear}
use Rattle.cost_defs.specs.Costs.{Costed, cost}
use Rattle.price_defs.specs.declared.row.Row.{Row}
use Rattle.price_defs.specs.Rows.{Counts, row_at, stand}
use Rattle.price_defs.specs.Loads.{load}
use Rattle.price_defs.specs.Raising.{IsRaisedRow}

-- p-r is a clear pair that the row counts
abbrev pub IsCandidate : List Point → Row → (p r : ℕ) → Type 0
IsCandidate S row p r = (r ≢ p) × IsClear S p r × Counts S row p r

-- the row at k is raised
pub record IsRaisedAt (S : List Point) (D : List Costed) (q : ℕ) (old : List Row) (k : ℕ) (new : List Row) : Type 0 where
  pub within : k < length old
  pub row : Row
  pub after : Row
  pub is : row ≡ slice_index_or old k row
  pub raised : IsRaisedRow S D q old row after
  pub changed : new ≡ set old k after

-- u-s is a clear pair that the row counts, and it has all that is allowed
pub record IsFullWith (S : List Point) (D : List Costed) (q : ℕ) (rows : List Row) (row : Row) (u s : ℕ) : Type 0 where
  pub within : s < length S
  pub counted : IsCandidate S row u s
  pub full : load S rows u s ≡ pos (q * cost D u s)

-- the row at k, where it stands at a point, is full with this end
abbrev pub IsFullEnd : List Point → List Costed → ℕ → List Row → (k s : ℕ) → Type 0
IsFullEnd S D q rows k s = (u : ℕ) → stand (row_at rows k) ≡ Some u → IsFullWith S D q rows (row_at rows k) u s
