-- The start: a triangulation of exactly the sweep pairs.
use Rattle.std.specs.Prelude.{List}
use Rattle.plane.specs.declared.coordinates.Point.{Point}
use Rattle.plane.specs.declared.segment.Pair.{Pair}
use Rattle.partition_defs.specs.Triangulation.{AreDistinct, IsTriangulation, HasTriangulationCount}
use Rattle.partition_defs.specs.Sweep.{AreSweepPairs}
use Rattle.partition_defs.specs.Ascending.{IsAscending}
use Rattle.triangulate.specs.SweepSet.{IsSweepSet}

-- what the segments of the start are
pub record IsStart (S : List Point) (T : List Pair) : Type 0 where
  pub distinct : AreDistinct T
  pub triangulation : IsTriangulation S T
  pub count : HasTriangulationCount S T
  pub sweep : AreSweepPairs S T
  pub set : IsSweepSet S T

-- the same, ascending
pub record IsSortedStart (S : List Point) (T : List Pair) : Type 0 where
  pub ascending : IsAscending T
  pub start : IsStart S T
