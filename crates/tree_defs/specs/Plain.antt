-- For private clauses.
-- Steps of the plain program.
use Rattle.std.specs.Prelude.{ℕ, ◌*◌, ◌≤◌, List, pos, ◌<ℤ◌}
use Rattle.std.specs.List.{Contains}
use Rattle.plane.specs.declared.coordinates.Point.{Point}
use Rattle.plane.specs.declared.segment.Pair.{Pair}
use Rattle.plane.specs.Geometry.{IsClear, IsBorderPair, IsInNeed}
use Rattle.price_defs.specs.declared.row.Row.{Row}
use Rattle.cost_defs.specs.Costs.{Costed, cost}
use Rattle.price_defs.specs.Rows.{IsRight, weight}
use Rattle.price_defs.specs.Loads.{load}
use Rattle.tree_defs.specs.declared.node.TheConstants.{MOST_LEAF_WEIGHT}
use Rattle.tree_defs.specs.Leaves.{Sets, IsLost}

-- the segment p-r isn't clear, doesn't meet the need of p for q, or is lost
abbrev pub IsSpent : List Point → Sets → (p q r : ℕ) → Type 0
IsSpent S s p q r = IsClear S p r → IsInNeed S p q r → IsLost S s p r

-- a right row that is light enough for a leaf
abbrev pub IsFit : List Point → Row → Type 0
IsFit S row = (weight row ≤ MOST_LEAF_WEIGHT) × IsRight S row

-- the segment is clear, and neither a border pair nor taken nor barred
abbrev pub IsBound : List Point → Sets → Pair → Type 0
IsBound S s e = IsClear S e.lo e.hi × (¬ IsBorderPair S e.lo e.hi) × (¬ Contains s.taken e) × (¬ Contains s.barred e)

-- the segment is such and has more than is allowed
abbrev pub IsOver : List Point → List Costed → Sets → ℕ → List Row → Pair → Type 0
IsOver S D s q rows e = IsBound S s e × (pos (q * cost D e.lo e.hi) <ℤ load S rows e.lo e.hi)
