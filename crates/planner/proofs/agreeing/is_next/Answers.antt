use Rattle.planner.proofs.Agreed.{next_res}
use Rattle.planner.proofs.agreeing.is_next.Goals as goal

pub returns-in-Some : goal.returns-in-Some
returns-in-Some c = next_res c.args.star.now c.args.r c.in-Some.q c.args.p c.degree-degree.ensures.order c.in-Some.ensures
