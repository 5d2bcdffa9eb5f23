use Rattle.std.proofs.Common.{ℕ, refl, below_more}
use Rattle.star.specs.Stars.{entry}
use Rattle.planner.specs.Agreeing.{AgreesWith}
use Rattle.planner.proofs.agreeing.agrees_at.Goals as goal

pub loop-k-preserved : goal.loop-k-preserved
loop-k-preserved c =
    below_more (λ (j : ℕ). AgreesWith c.args.points.now c.args.region.now c.args.star.now (entry c.args.star.now.list j)) c.loop-k.k c.loop-k.invariant (c.if-not-agrees_with.ensures.0 refl)
