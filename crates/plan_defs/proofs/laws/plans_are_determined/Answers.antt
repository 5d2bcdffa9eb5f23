use Rattle.plan_defs.proofs.laws.Once.{one_answer}
use Rattle.plan_defs.proofs.laws.plans_are_determined.Goals as goal

pub returns : goal.returns
returns c = λ D R m o u agree a b. one_answer c.args._points.now D R m o u (λ v h. (agree.stars v h).0) a b
