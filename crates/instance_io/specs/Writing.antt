-- For private clauses.
-- The parts of the text of an instance.
use Rattle.std.specs.Prelude.{ℕ, List, [], ◌∷◌, ◌++◌, map, ℤ, codes}
use Rattle.std.specs.List.{enumerate_from}
use Rattle.serde_json.specs.Data.{array}
use Rattle.serde_json.specs.View.{items_of}
use Rattle.serde_json.specs.Written.{compact_text}
use Rattle.text_defs.specs.Costs.{CostItem}
use Rattle.text_defs.specs.Texts.{point_data, cost_data}

-- the costs, with the comma behind them, where there are some
abbrev pub costs_text : List CostItem → List ℕ
costs_text [] = []
costs_text (x ∷ costs) = codes "\"costs\":" ++ (compact_text (array (items_of (map cost_data (x ∷ costs)))) ++ codes ",")

abbrev pub points_text : List (ℤ × ℤ) → List ℕ
points_text points = compact_text (array (items_of (map point_data (enumerate_from 0 points))))
