use Rattle.plane.proofs.Boxed.{boxes_meet}
use Rattle.plane.proofs.kernel.could_cross.Goals as goal

pub returns : goal.returns
returns c = λ h. c.meets.ensures.1 (boxes_meet _ _ c.args.a c.args.b c.args.c c.args.d c.of.ensures c.of-2.ensures h)
