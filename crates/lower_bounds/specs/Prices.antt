-- For private clauses.
-- What bound workers found where memory was found.
use Rattle.std.specs.Prelude.{◌≡◌, ℕ, ◌+◌, ◌<◌, ◌≤◌, List, length, slice_index_or, Result, IfOk}
use Rattle.plane.specs.declared.coordinates.Point.{Point}
use Rattle.cost_defs.specs.Costs.{Costed}
use Rattle.price_defs.specs.declared.row.Certificate.{Certificate}
use Rattle.price_defs.specs.Limits.{AreLight}
use Rattle.price_defs.specs.declared.row.TheConstants.{MOST_ROWS}
use Rattle.mcp_outside.specs.declared.NoMemory.{NoMemory}
use Rattle.lower_bounds.specs.declared.bests.Search.{Search}
use Rattle.lower_bounds.specs.Found.{IsFoundBy}

-- its value can be told
pub record CanBeValued (C : Certificate) : Type 0 where
  pub divisor : 0 < C.q
  pub few : length C.rows ≤ MOST_ROWS
  pub light : AreLight C.rows

-- what each found, or that no memory was found
pub record AreTried (S : List Point) (D : List Costed) (first : Certificate) (search : Search) (list : List (Result Certificate NoMemory)) : Type 0 where
  pub count : length list ≡ search.workers
  pub each : (k : ℕ) (d : Result Certificate NoMemory) → k < search.workers → IfOk (slice_index_or list k d) (IsFoundBy S D first search (1 + k))
