use Rattle.cp_judge.proofs.Sweeping.{apart_upward, apart_downward}
use Rattle.cp_judge.proofs.crossing.least_if_crossing.Goals as goal

pub returns-then-is_below-clause-met : goal.returns-then-is_below-clause-met
returns-then-is_below-clause-met c = λ h.
    absurd (apart_upward c.args.points.now c.args.list.now c.args.z c.args.w c.requires.z_of c.requires.w_of (c.is_below.ensures c.if-is_below.true) h)

pub returns-then-is_below-2-clause-met : goal.returns-then-is_below-2-clause-met
returns-then-is_below-2-clause-met c = λ h.
    absurd (apart_downward c.args.points.now c.args.list.now c.args.z c.args.w c.requires.z_of c.requires.w_of (c.is_below-2.ensures c.if-is_below-2.true) h)
