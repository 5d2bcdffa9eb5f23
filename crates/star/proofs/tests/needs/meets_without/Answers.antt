use Rattle.std.proofs.Common.{below_more}
use Rattle.star.proofs.tests.needs.meets_without.Goals as goal

pub loop-u-preserved : goal.loop-u-preserved
loop-u-preserved c = below_more _ _ c.loop-u.invariant (c.is_missed.ensures.met c.if-is_missed.false)
