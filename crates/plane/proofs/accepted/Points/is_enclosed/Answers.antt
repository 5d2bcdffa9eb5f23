use Rattle.std.proofs.Common.{rules}
use Rattle.plane.proofs.Enclosed.{no_step_inside}
use Rattle.plane.proofs.accepted.Points.is_enclosed.Goals as goal

pub returns-then-is_in_triangle : goal.returns-then-is_in_triangle
returns-then-is_in_triangle c = λ _. no_step_inside c.args.self.now c.args.v _ _ _ c.guide.ensures.accepted c.requires c.guide.ensures.within c.guide-in-loop-i.ensures.within c.guide-in-loop-i-2.ensures.within (c.is_in_triangle.ensures.0 (search rules))
