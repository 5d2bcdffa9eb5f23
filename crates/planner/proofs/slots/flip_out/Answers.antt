use Rattle.planner.proofs.Stars.{out_stepped}
use Rattle.planner.proofs.slots.flip_out.Goals as goal

pub returns : goal.returns
returns c =
    out_stepped c.args.points.now c.args.from c.args.to c.args.star.now c.remove.new.self c.centre.result c.other_end-w.result c.requires.points c.centre.ensures.centre c.other_end-w.ensures c.requires.at c.requires.can c.centre.ensures.order
    c.remove.ensures.list c.remove.ensures.spare c.remove.ensures.place c.remove.ensures.order
