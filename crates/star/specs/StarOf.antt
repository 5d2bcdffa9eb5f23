-- The star of a vertex in a set of segments of which some are kept.
use Rattle.std.specs.Prelude.{◌≡◌, ℕ, ◌↔◌, List, true}
use Rattle.plane.specs.declared.coordinates.Point.{Point}
use Rattle.plane.specs.declared.segment.Pair.{Pair}
use Rattle.partition_defs.specs.Partition.{Joins}
use Rattle.star.specs.Stars.{Seen, IsStar, IsNeighbour, HasMark}

-- the star of v in (T, K): its neighbours are those of v in T, marked where the segment is in K
pub record IsStarOf (S : List Point) (T K : List Pair) (v : ℕ) (s : Seen) : Type 0 where
  pub star : IsStar s
  pub centre : s.centre ≡ v
  pub points : s.points ≡ S
  pub neighbours : (w : ℕ) → IsNeighbour s w ↔ Joins T v w
  pub marks : (w : ℕ) → IsNeighbour s w → HasMark s w true ↔ Joins K v w
