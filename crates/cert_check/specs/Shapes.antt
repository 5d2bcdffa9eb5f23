-- For private clauses.
-- What is known of points and rows.
use Rattle.std.specs.Prelude.{◌≡◌, ◌↔◌, ℕ, ◌<◌, List, length, slice_index_or, Option, Some, None, Bool, false, IsTrue}
use Rattle.plane.specs.declared.coordinates.Point.{Point}
use Rattle.plane.specs.Geometry.{IsInner}
use Rattle.price_defs.specs.declared.row.Row.{Row}
use Rattle.price_defs.specs.Rows.{IsAlone, AreRight}
use Rattle.price_defs.specs.Faults.{IsBadRow}

-- each point's mark says whether it is inner
pub record AreInnerMarks (S : List Point) (marks : List Bool) : Type 0 where
  pub count : length marks ≡ length S
  pub each : (p : ℕ) → p < length S → IsTrue (slice_index_or marks p false) ↔ IsInner S p

-- each mark that is there says whether its point is strictly between no two points
pub record AreAloneMarks (S : List Point) (marks : List (Option Bool)) : Type 0 where
  pub count : length marks ≡ length S
  pub each : (p : ℕ) (b : Bool) → p < length S → slice_index_or marks p None ≡ Some b → IsTrue b ↔ IsAlone S p

-- the first row that isn't right, or none
abbrev pub IsFirstBad : List Point → List Row → Option ℕ → Type 0
IsFirstBad S rows None = AreRight S rows
IsFirstBad S rows (Some k) = IsBadRow S rows k
