-- Loads of pairs under a certificate, valid certificates and their value. (Weak duality of linear programs.)
use Rattle.std.specs.Prelude.{ℕ, ◌+◌, ◌-◌, ◌*◌, ◌<◌, ◌≤◌, List, length, cond, ℤ, pos, ◌-ℤ◌, ◌≤ℤ◌}
use Rattle.std.specs.Int.{div_ceil}
use Rattle.std.specs.List.{sum_by}
use Rattle.plane.specs.declared.coordinates.Point.{Point}
use Rattle.plane.specs.Geometry.{IsClear, IsBorderPair}
use Rattle.price_defs.specs.declared.row.Row.{Row}
use Rattle.price_defs.specs.declared.row.Row.TheVariants.{Half, Three, Cross, Cap}
use Rattle.price_defs.specs.declared.row.TheConstants.{MOST_ROWS}
use Rattle.cost_defs.specs.Costs.{Costed, cost}
use Rattle.price_defs.specs.Rows.{AreRight, weight, counts, lessens}

-- what the row gives to the load of the pair i-j, and what it takes off
abbrev pub given : List Point → (i j : ℕ) → Row → ℕ
given S i j row = cond (counts S row i j) (weight row) 0

abbrev pub lessened : (i j : ℕ) → Row → ℕ
lessened i j row = cond (lessens row i j) (weight row) 0

abbrev pub gives : List Point → List Row → (i j : ℕ) → ℕ
gives S rows i j = sum_by (given S i j) rows

abbrev pub takes : List Row → (i j : ℕ) → ℕ
takes rows i j = sum_by (lessened i j) rows

-- the load of the pair i-j
abbrev pub load : List Point → List Row → (i j : ℕ) → ℤ
load S rows i j = pos (gives S rows i j) -ℤ pos (takes rows i j)

-- a valid certificate
pub record IsValid (S : List Point) (D : List Costed) (q : ℕ) (rows : List Row) : Type 0 where
  pub divisor : 0 < q
  pub count : length rows ≤ MOST_ROWS
  pub right : AreRight S rows
  pub loads : (i j : ℕ) → i < j → j < length S → IsClear S i j → ¬ IsBorderPair S i j → load S rows i j ≤ℤ pos (q * cost D i j)

-- what a row adds to the sum under the value, and what it takes off
abbrev pub added : Row → ℕ
added (Half p q w) = w
added (Three p w) = 3 * w
added (Cross e f w) = 0
added (Cap e w) = 0

abbrev pub lost : Row → ℕ
lost (Half p q w) = 0
lost (Three p w) = 0
lost (Cross e f w) = w
lost (Cap e w) = w

-- The value, where the border pairs cost h: the quotient is rounded up, and is 0 where the sum is negative.
abbrev pub value : (h q : ℕ) → List Row → ℕ
value h q rows = h + div_ceil (sum_by added rows - sum_by lost rows) q
