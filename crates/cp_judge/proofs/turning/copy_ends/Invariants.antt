use Rattle.std.proofs.Common.{◌<◌, ◌*◌, ℕ, slice_index_or}
use Rattle.partition_defs.specs.Partition.{Joins}
use Rattle.cp_judge.specs.declared.turning.End.{End}
use Rattle.cp_judge.proofs.turning.copy_ends.Given as goal

abbrev pub invariant-loop-k : goal.invariant-loop-k
invariant-loop-k l = (i : ℕ) → i < 2 * l.k → let d : End = record { at = 0; to = 0 } in let z = slice_index_or l.ends i d in Joins l.list z.at z.to
