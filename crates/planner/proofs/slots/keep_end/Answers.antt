use Rattle.planner.proofs.Stars.{keep_stepped}
use Rattle.planner.proofs.slots.keep_end.Goals as goal

pub returns : goal.returns
returns c =
    keep_stepped c.args.points.now c.args.e c.args.star.now c.keep_mark.new.self c.centre.result c.other_end-w.result c.requires.points c.centre.ensures.centre c.other_end-w.ensures c.centre.ensures.order c.keep_mark.ensures.mark c.keep_mark.ensures.order
