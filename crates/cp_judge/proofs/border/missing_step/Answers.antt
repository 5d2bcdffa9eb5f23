use Rattle.number_laws.proofs.Tests.{refused}
use Rattle.cp_judge.proofs.Steps.{step_missing, step_joined}
use Rattle.cp_judge.proofs.border.missing_step.Goals as goal

pub returns-in-None : goal.returns-in-None
returns-in-None c = λ w step. absurd (c.in-None.ensures w step)

pub returns-then-joins : goal.returns-then-joins
returns-then-joins c =
    step_joined c.args.points.now c.args.list.now c.args.v c.in-Some.w c.len-count.ensures.accepted c.requires c.in-Some.ensures (c.joins.ensures.0 c.if-joins.true)

pub returns-else-joins : goal.returns-else-joins
returns-else-joins c =
    step_missing c.args.points.now c.args.list.now c.args.v c.in-Some.w c.of.result c.len-count.ensures.accepted c.requires c.in-Some.ensures
    (refused _ _ c.if-joins.false c.joins.ensures.1) c.of.ensures.lo c.of.ensures.hi
