-- The law of weak duality. (Textbook, for linear programs.)
use Rattle.std.specs.Prelude.{ℕ, ◌≤◌, List}
use Rattle.plane.specs.declared.coordinates.Point.{Point}
use Rattle.plane.specs.declared.segment.Pair.{Pair}
use Rattle.partition_defs.specs.Partition.{IsConvexPartition}
use Rattle.partition_defs.specs.Triangulation.{AreDistinct, IsBorderList}
use Rattle.price_defs.specs.declared.row.Row.{Row}
use Rattle.cost_defs.specs.Costs.{Costed, total}
use Rattle.price_defs.specs.Loads.{IsValid, value}

-- No convex partition, listed without repeats, costs less than the value of a valid certificate.
abbrev pub NoneIsCheaper : List Point → Type 0
NoneIsCheaper S =
    (D : List Costed) (q : ℕ) (rows : List Row) (B K : List Pair)
    → IsValid S D q rows → IsBorderList S B → IsConvexPartition S K → AreDistinct K → value (total D B) q rows ≤ total D K
