use Rattle.cp_judge.proofs.Settled.{same_judgement, convex_exactly}
use Rattle.cp_judge.proofs.judge.Goals as goal

pub returns-clause-only : goal.returns-clause-only
returns-clause-only c = λ j h. same_judgement c.args.points.now c.args.list.now j c.first_violation.result h c.first_violation.ensures

pub returns-clause-convex : goal.returns-clause-convex
returns-clause-convex c = convex_exactly c.args.points.now c.args.list.now c.first_violation.result c.first_violation.ensures
