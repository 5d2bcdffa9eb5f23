use Rattle.std.proofs.Common.{ℕ, ◌+◌, below_more, rules}
use Rattle.partition_defs.specs.Partition.{Joins}
use Rattle.cp_judge.specs.Chains.{stop}
use Rattle.cp_judge.proofs.outline.has_pairs.Goals as goal

pub loop-i-preserved : goal.loop-i-preserved
loop-i-preserved c =
    below_more (λ (i : ℕ). Joins c.args.sorted.now (stop c.args.order.now c.args.chain.now i) (stop c.args.order.now c.args.chain.now (i + 1))) c.loop-i.i c.loop-i.invariant
    (c.has_pair.ensures (search rules))
