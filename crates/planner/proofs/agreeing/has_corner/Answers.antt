use Rattle.planner.proofs.Agreed.{corner_res}
use Rattle.planner.proofs.agreeing.has_corner.Goals as goal

pub returns-in-Some : goal.returns-in-Some
returns-in-Some c =
    corner_res c.args.star.now c.args.other.now c.centre.result c.centre-in-Some.result c.in-Some.r c.is_next.result c.centre.ensures.centre c.centre-in-Some.ensures.centre c.degree-degree.ensures.order c.in-Some.ensures c.is_next.ensures
