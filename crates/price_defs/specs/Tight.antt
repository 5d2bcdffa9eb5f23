-- Tight certificates, and the floor. (This project's own.)
use Rattle.std.specs.Prelude.{◌≡◌, ℕ, ◌*◌, ◌<◌, ◌⊎◌, List, length, pos}
use Rattle.std.specs.List.{Contains}
use Rattle.plane.specs.declared.coordinates.Point.{Point}
use Rattle.plane.specs.Geometry.{IsBetween, IsClear, IsInner}
use Rattle.price_defs.specs.declared.row.Row.{Row}
use Rattle.price_defs.specs.declared.row.Row.TheVariants.{Half, Three, Cross, Cap}
use Rattle.cost_defs.specs.Costs.{Costed, cost}
use Rattle.price_defs.specs.Rows.{Counts}
use Rattle.price_defs.specs.Loads.{load}

-- a Half or Three row
abbrev pub IsAtPoint : Row → Type 0
IsAtPoint (Half p q w) = Unit {0}
IsAtPoint (Three p w) = Unit {0}
IsAtPoint (Cross e f w) = ⊥
IsAtPoint (Cap e w) = ⊥

-- p has a Three row, or two Half rows for points that p is strictly between
abbrev pub HasRowsAt : List Point → List Row → ℕ → Type 0
HasRowsAt S rows p =
    ((w : ℕ) × Contains rows (Three p w)) ⊎ ((q r v w : ℕ) × Contains rows (Half p q v) × Contains rows (Half p r w) × IsBetween S p q r)

abbrev pub AreCovered : List Point → List Row → Type 0
AreCovered S rows = (p : ℕ) → p < length S → IsInner S p → HasRowsAt S rows p

-- the row counts a clear pair whose load is all that is allowed
pub record IsFull (S : List Point) (D : List Costed) (q : ℕ) (rows : List Row) (row : Row) : Type 0 where
  pub i : ℕ
  pub j : ℕ
  pub ordered : i < j
  pub within : j < length S
  pub clear : IsClear S i j
  pub counted : Counts S row i j
  pub full : load S rows i j ≡ pos (q * cost D i j)

pub record IsTight (S : List Point) (D : List Costed) (q : ℕ) (rows : List Row) : Type 0 where
  pub covered : AreCovered S rows
  pub full : (row : Row) → Contains rows row → IsAtPoint row → IsFull S D q rows row
