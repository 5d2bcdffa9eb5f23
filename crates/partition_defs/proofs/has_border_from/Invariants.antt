use Rattle.std.proofs.Common.{◌<◌, ℕ}
use Rattle.plane.specs.Geometry.{IsBorderPair}
use Rattle.partition_defs.specs.Partition.{Joins}
use Rattle.partition_defs.proofs.has_border_from.Given as goal

abbrev pub invariant-loop-j : goal.invariant-loop-j
invariant-loop-j l = (j : ℕ) → l.i < j → j < l.j → IsBorderPair l.points l.i j → Joins l.list l.i j
