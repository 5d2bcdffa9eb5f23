use Rattle.std.proofs.Common.{subst, sym}
use Rattle.plane.specs.Hull.{IsBorderStep}
use Rattle.plane.proofs.accepted.Points.border_step.Goals as goal

pub returns-else-is_step-2 : goal.returns-else-is_step-2
returns-else-is_step-2 c = λ w step.
    let e = c.outermost-best.ensures.found w step (c.outermost-first.ensures.turned w step) in
    let t = c.is_step-2.ensures.1 (subst (IsBorderStep c.args.self.now c.args.side c.args.v) (sym e) step) in
    let f = c.if-is_step-2.false in cc
