use Rattle.std.proofs.Common.{◌<◌, ℕ}
use Rattle.partition_defs.specs.Partition.{HasBorderFrom}
use Rattle.partition_defs.proofs.has_border.Given as goal

abbrev pub invariant-loop-i : goal.invariant-loop-i
invariant-loop-i l = (i : ℕ) → i < l.i → HasBorderFrom l.points l.list i
