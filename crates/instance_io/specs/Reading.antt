-- For private clauses.
-- How a value's costs are read: the items that were taken so far, and what is answered.
use Rattle.std.specs.Prelude.{◌≡◌, List, Bool, not, ◌==◌, Result, Ok}
use Rattle.cost_defs.specs.Costs.{Costed}
use Rattle.text_defs.specs.Costs.{CostItem, CostFault}
use Rattle.instance_io.specs.Refusal.{AreCostsOf}

-- the costs were read as these
abbrev pub GivesCosts : Result (List CostItem) CostFault → List Costed → Type 0
GivesCosts reading D = (items : List CostItem) × (reading ≡ Ok items) × AreCostsOf items D

-- a pair whose cost isn't 1 is listed
abbrev pub is_listed : Costed → Bool
is_listed x = not (x.1 == 1)
