use Rattle.planner.proofs.Stars.{drop_stepped}
use Rattle.planner.proofs.slots.drop_end.Goals as goal

pub returns : goal.returns
returns c =
    drop_stepped c.args.points.now c.args.e c.args.star.now c.drop_mark.new.self c.centre.result c.other_end-w.result c.requires.points c.centre.ensures.centre c.other_end-w.ensures c.centre.ensures.order c.drop_mark.ensures.mark c.drop_mark.ensures.order
