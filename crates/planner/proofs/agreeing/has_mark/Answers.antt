use Rattle.planner.proofs.Agreed.{mark_res}
use Rattle.planner.proofs.agreeing.has_mark.Goals as goal

pub returns-in-Some : goal.returns-in-Some
returns-in-Some c = mark_res c.args.star.now c.args.p c.in-Some.k c.at.result c.args.kept c.is_same.result c.degree-degree.ensures.order c.in-Some.ensures c.at.ensures.entry c.is_same.ensures
