use Rattle.std.proofs.Common.{rules, ℕ}
use borrow.Author.Count.{below_more}
use Rattle.plane.specs.Geometry.{IsInner}
use Rattle.partition_defs.specs.Partition.{MeetsNeedsAt, MeetsNeeds}
use Rattle.number_laws.proofs.Loops.{refuses}
use Rattle.partition_defs.proofs.meets_needs.Goals as goal

pub loop-p-preserved : goal.loop-p-preserved
loop-p-preserved c =
    below_more (λ (p : ℕ). IsInner c.args.points.now p → MeetsNeedsAt c.args.points.now c.args.list.now p) c.loop-p.p c.loop-p.invariant
    (c.meets_needs_of.ensures.0 (search rules))

pub returns-then-not-meets_needs_of : goal.returns-then-not-meets_needs_of
returns-then-not-meets_needs_of c =
    refuses c.meets_needs_of.result _ (MeetsNeeds c.args.points.now c.args.list.now) c.if-not-meets_needs_of.true c.meets_needs_of.ensures (λ f. f c.loop-p.p (search rules))
