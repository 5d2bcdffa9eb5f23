use Rattle.std.proofs.Common.{◌<◌, ◌+◌, ℕ}
use Rattle.partition_defs.specs.Partition.{Joins}
use Rattle.cp_judge.specs.Chains.{stop}
use Rattle.cp_judge.proofs.outline.has_pairs.Given as goal

abbrev pub invariant-loop-i : goal.invariant-loop-i
invariant-loop-i l = (i : ℕ) → i < l.i → Joins l.sorted (stop l.order l.chain i) (stop l.order l.chain (i + 1))
