use Rattle.std.proofs.Common.{◌<◌, ℕ}
use Rattle.plane.specs.Geometry.{IsInNeed}
use Rattle.partition_defs.specs.Partition.{Joins}
use Rattle.partition_defs.proofs.is_met.Given as goal

abbrev pub invariant-loop-r : goal.invariant-loop-r
invariant-loop-r l = (r : ℕ) → r < l.r → ¬ (Joins l.list l.p r × IsInNeed l.points l.p l.q r)
