-- The lower bound that a session shows. (This project's own.)
use Rattle.std.specs.Prelude.{◌≡◌, ℕ, List}
use Rattle.plane.specs.declared.coordinates.Point.{Point}
use Rattle.plane.specs.declared.segment.Pair.{Pair}
use Rattle.partition_defs.specs.Triangulation.{IsBorderList}
use Rattle.cost_defs.specs.Costs.{Costed, total}
use Rattle.price_defs.specs.declared.row.Row.{Row}
use Rattle.price_defs.specs.Loads.{value}
use Rattle.price_defs.specs.Raising.{IsRaisedFloor}

-- what the border pairs cost
abbrev pub IsBorderCost : List Point → List Costed → ℕ → Type 0
IsBorderCost S D h = (B : List Pair) × IsBorderList S B × (h ≡ total D B)

-- the value of the raised floor certificate over the cost of the border pairs
pub record IsRaisedValue (S : List Point) (D : List Costed) (v : ℕ) : Type 0 where
  pub q : ℕ
  pub rows : List Row
  pub base : ℕ
  pub raised : IsRaisedFloor S D q rows
  pub border : IsBorderCost S D base
  pub is : v ≡ value base q rows
