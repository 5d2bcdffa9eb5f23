-- For private clauses.
-- The ends that are noted for all rows: of a full pair each.
use Rattle.std.specs.Prelude.{◌≡◌, ◌≢◌, ℕ, ◌<◌, List, length, set, slice_index, Some}
use Rattle.plane.specs.declared.coordinates.Point.{Point}
use Rattle.cost_defs.specs.Costs.{Costed}
use Rattle.price_defs.specs.declared.row.Row.{Row}
use Rattle.price_defs.specs.Rows.{row_at, stand}
use Rattle.dual_prices.specs.Raised.{IsFullWith, IsFullEnd}

-- the end that is noted for the row at k
abbrev pub end_at : List ℕ → ℕ → ℕ
end_at ends k = slice_index ends k

-- the row at k, where it stands at a point, is full with the end that is noted for it
abbrev pub IsSettledAt : List Point → List Costed → ℕ → List Row → List ℕ → ℕ → Type 0
IsSettledAt S D q rows ends k = IsFullEnd S D q rows k (end_at ends k)

-- an end is noted for the row at k, with which it is full
pub record IsNoted (S : List Point) (D : List Costed) (q : ℕ) (rows : List Row) (k : ℕ) (old new : List ℕ) : Type 0 where
  pub end : ℕ
  pub changed : new ≡ set old k end
  pub settled : IsSettledAt S D q rows new k

-- the first k rows are settled, and of the others those that a trial at p leaves
pub record AreSettled (S : List Point) (D : List Costed) (q p k : ℕ) (rows : List Row) (ends : List ℕ) : Type 0 where
  pub count : length ends ≡ length rows
  pub done : (j : ℕ) → j < length rows → j < k → IsSettledAt S D q rows ends j
  pub left : (j u : ℕ) → j < length rows → stand (row_at rows j) ≡ Some u → u ≢ p → end_at ends j ≢ p → IsFullWith S D q rows (row_at rows j) u (end_at ends j)

-- all rows are settled
pub record AreEnds (S : List Point) (D : List Costed) (q : ℕ) (rows : List Row) (ends : List ℕ) : Type 0 where
  pub count : length ends ≡ length rows
  pub each : (j : ℕ) → j < length rows → IsSettledAt S D q rows ends j
