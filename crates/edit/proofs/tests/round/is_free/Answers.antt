use Rattle.std.proofs.Common.{below_more}
use Rattle.edit.proofs.tests.round.is_free.Goals as goal

pub loop-k-preserved : goal.loop-k-preserved
loop-k-preserved c = below_more _ _ c.loop-k.invariant (c.is_apart.ensures c.if-not-is_apart.false)
