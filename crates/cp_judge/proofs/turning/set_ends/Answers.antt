use Rattle.std.proofs.lemmas.List.Sorted.{All-permutation}
use Rattle.partition_defs.specs.Partition.{Joins}
use Rattle.cp_judge.specs.declared.turning.End.{End}
use Rattle.cp_judge.proofs.turning.set_ends.Goals as goal

pub returns : goal.returns
returns c = All-permutation (λ (z : End). Joins c.args.list.now z.at z.to) c.copy_ends.new.ends c.turn_ends.new.ends c.turn_ends.ensures c.copy_ends.ensures
