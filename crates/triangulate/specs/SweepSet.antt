-- The set of all sweep pairs. (This project's own choice of a fixed start.)
use Rattle.std.specs.Prelude.{◌↔◌, ◌<◌, ℕ, List, length}
use Rattle.plane.specs.declared.coordinates.Point.{Point}
use Rattle.plane.specs.declared.segment.Pair.{Pair}
use Rattle.partition_defs.specs.Partition.{Joins}
use Rattle.partition_defs.specs.Sweep.{IsSweepPair}

-- exactly the sweep pairs are in the set
abbrev pub IsSweepSet : List Point → List Pair → Type 0
IsSweepSet S T = (i j : ℕ) → i < j → j < length S → Joins T i j ↔ IsSweepPair S i j
