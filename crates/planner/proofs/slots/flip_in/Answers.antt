use Rattle.planner.proofs.Stars.{in_stepped}
use Rattle.planner.proofs.slots.flip_in.Goals as goal

pub returns : goal.returns
returns c =
    in_stepped c.args.points.now c.args.from c.args.to c.args.star.now c.insert.new.self c.centre.result c.other_end-w.result c.len-count.ensures.accepted c.requires.points c.centre.ensures.centre c.other_end-w.ensures c.requires.at c.requires.can
    c.insert.ensures.list c.insert.ensures.spare c.insert.ensures.place c.insert.ensures.order
