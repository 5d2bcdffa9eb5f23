use Rattle.edit.proofs.Inside.{inner_inside}
use Rattle.edit.proofs.marks.is_strictly_inside.Goals as goal

pub returns : goal.returns
returns c = λ t.
    inner_inside c.args.points.now c.args.centre c.args.a c.args.b c.args.c c.len-count.ensures.accepted
    c.requires.centre_in c.requires.a_in c.requires.b_in c.requires.c_in
    (c.is_left.ensures.0 c.if-not-is_left.false) (c.is_left-2.ensures.0 c.if-not-is_left-2.false) (c.is_left-3.ensures.0 t)
