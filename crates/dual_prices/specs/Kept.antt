-- A certificate whose loads are kept, and what changes it.
use Rattle.std.specs.Prelude.{ℕ, List, [], ◌∷◌, ◌++◌, set}
use Rattle.plane.specs.declared.coordinates.Point.{Point}
use Rattle.price_defs.specs.declared.row.Row.{Row}
use Rattle.price_defs.specs.declared.row.Certificate.{Certificate}
use Rattle.price_defs.specs.Rows.{row_at, weight}
use Rattle.price_defs.specs.Raising.{reweigh}

-- the points, and the certificate as it is
pub record Loaded : Type 0 where
  pub points : List Point
  pub certificate : Certificate

-- the weight of the row at a position
abbrev pub row_weight : Certificate → ℕ → ℕ
row_weight c k = weight (row_at c.rows k)

-- the certificate with another weight of the row at a position
abbrev pub with_weight : Certificate → (k w : ℕ) → Certificate
with_weight c k w = record c { rows = set c.rows k (reweigh (row_at c.rows k) w) }

-- the certificate with one row more at the end
abbrev pub with_row : Certificate → Row → Certificate
with_row c row = record c { rows = c.rows ++ row ∷ [] }
