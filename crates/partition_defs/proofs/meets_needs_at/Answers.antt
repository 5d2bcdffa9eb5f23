use Rattle.std.proofs.Common.{rules, ℕ, ◌≢◌}
use borrow.Author.Count.{below_more}
use Rattle.partition_defs.specs.Partition.{IsMet}
use Rattle.partition_defs.proofs.meets_needs_at.Goals as goal

pub loop-q-preserved : goal.loop-q-preserved
loop-q-preserved c =
    below_more (λ (q : ℕ). q ≢ c.args.p → IsMet c.args.points.now c.args.list.now c.args.p q) c.loop-q.q c.loop-q.invariant
    (c.is_met_or_same.ensures.0 (search rules))
