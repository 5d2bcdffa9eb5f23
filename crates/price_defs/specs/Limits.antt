-- Limits of a certificate's numbers. (This project's own.)
use Rattle.std.specs.Prelude.{◌<◌, ◌≤◌, List, length}
use Rattle.std.specs.List.{All}
use Rattle.plane.specs.declared.coordinates.Point.{Point}
use Rattle.price_defs.specs.declared.row.Row.{Row}
use Rattle.price_defs.specs.declared.row.Row.TheVariants.{Half, Three, Cross, Cap}
use Rattle.price_defs.specs.declared.row.TheConstants.{MOST_WEIGHT}
use Rattle.price_defs.specs.Rows.{weight}

-- the weights are within the limit
abbrev pub AreLight : List Row → Type 0
AreLight = All (λ row. weight row ≤ MOST_WEIGHT)

-- the row speaks of points of the list alone
abbrev pub IsIndexed : List Point → Row → Type 0
IsIndexed S (Half p q w) = (p < length S) × (q < length S)
IsIndexed S (Three p w) = p < length S
IsIndexed S (Cross e f w) = (e.hi < length S) × (f.hi < length S)
IsIndexed S (Cap e w) = e.hi < length S
