-- The first fault of a certificate.
use Rattle.std.specs.Prelude.{◌≡◌, ℕ, ◌*◌, ◌<◌, ◌≤◌, List, length, slice_index_or, ℤ, pos, ◌<ℤ◌}
use Rattle.plane.specs.declared.coordinates.Point.{Point}
use Rattle.plane.specs.declared.segment.Pair.{Pair}
use Rattle.plane.specs.First.{IsLeast, IsFirstPair}
use Rattle.plane.specs.Geometry.{IsClear, IsBorderPair}
use Rattle.price_defs.specs.declared.row.Row.{Row}
use Rattle.price_defs.specs.declared.row.TheConstants.{MOST_ROWS}
use Rattle.cost_defs.specs.Costs.{Costed, cost}
use Rattle.price_defs.specs.Rows.{IsRight, AreRight}
use Rattle.price_defs.specs.Loads.{load}

-- the load of the pair i-j is more than is allowed
abbrev pub IsOver : List Point → List Costed → ℕ → List Row → (i j : ℕ) → Type 0
IsOver S D q rows i j = IsClear S i j × (¬ IsBorderPair S i j) × (pos (q * cost D i j) <ℤ load S rows i j)

abbrev pub IsBadRow : List Point → List Row → ℕ → Type 0
IsBadRow S rows = IsLeast (λ k. (d : Row) → ¬ IsRight S (slice_index_or rows k d)) (length rows)

abbrev pub IsOverload : List Point → List Costed → ℕ → List Row → Pair → ℤ → Type 0
IsOverload S D q rows e l = (0 < q) × (length rows ≤ MOST_ROWS) × AreRight S rows × IsFirstPair (IsOver S D q rows) (length S) e.lo e.hi × (l ≡ load S rows e.lo e.hi)
