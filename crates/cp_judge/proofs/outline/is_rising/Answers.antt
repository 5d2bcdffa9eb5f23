use Rattle.std.proofs.Common.{rules}
use Rattle.cp_judge.proofs.Outlined.{rising_more}
use Rattle.cp_judge.proofs.outline.is_rising.Goals as goal

pub loop-k-preserved : goal.loop-k-preserved
loop-k-preserved c = rising_more c.args.points.now c.args.order.now c.loop-k.k c.loop-k.auto.k (c.is_swept_before.ensures.0 (search rules)) c.loop-k.invariant
