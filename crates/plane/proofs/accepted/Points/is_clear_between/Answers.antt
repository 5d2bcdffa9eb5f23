use Rattle.plane.proofs.laws.Border.{clear_of_pair}
use Rattle.plane.proofs.accepted.Points.is_clear_between.Goals as goal

pub returns : goal.returns
returns c = (λ t. (clear_of_pair c.args.self.now c.args.v c.args.w _ _ c.of.ensures.lo c.of.ensures.hi).0 (c.is_clear.ensures.0 t), λ h. c.is_clear.ensures.1 ((clear_of_pair c.args.self.now c.args.v c.args.w _ _ c.of.ensures.lo c.of.ensures.hi).1 h))
