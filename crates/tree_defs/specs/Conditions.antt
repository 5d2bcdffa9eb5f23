-- What a node speaks of. (This project's own limits.)
use Rattle.std.specs.Prelude.{◌<◌, ◌≤◌, List, length}
use Rattle.std.specs.List.{All}
use Rattle.plane.specs.declared.coordinates.Point.{Point}
use Rattle.price_defs.specs.Rows.{weight}
use Rattle.price_defs.specs.Limits.{IsIndexed}
use Rattle.price_defs.specs.declared.row.TheConstants.{MOST_DIVISOR, MOST_WEIGHT}
use Rattle.tree_defs.specs.declared.node.Node.{Node}
use Rattle.tree_defs.specs.declared.node.Node.TheVariants.{Branch, Crossed, Barred, Need, Prices}

-- the node speaks of points of the list alone, and its weights and divisor are within the limits of a certificate
abbrev pub IsNodeOf : List Point → Node → Type 0
IsNodeOf S (Branch e) = e.hi < length S
IsNodeOf S (Crossed e f) = (e.hi < length S) × (f.hi < length S)
IsNodeOf S (Barred e) = e.hi < length S
IsNodeOf S (Need p q) = (p < length S) × (q < length S)
IsNodeOf S (Prices c) = All (λ row. IsIndexed S row × (weight row ≤ MOST_WEIGHT)) c.rows × (c.q ≤ MOST_DIVISOR)
