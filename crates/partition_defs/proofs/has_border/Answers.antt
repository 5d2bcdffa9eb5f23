use Rattle.std.proofs.Common.{rules, ℕ}
use borrow.Author.Count.{below_more}
use Rattle.partition_defs.specs.Partition.{HasBorderFrom}
use Rattle.partition_defs.proofs.has_border.Goals as goal

pub loop-i-preserved : goal.loop-i-preserved
loop-i-preserved c =
    below_more (λ (i : ℕ). HasBorderFrom c.args.points.now c.args.list.now i) c.loop-i.i c.loop-i.invariant (c.has_border_from.ensures.0 (search rules))
