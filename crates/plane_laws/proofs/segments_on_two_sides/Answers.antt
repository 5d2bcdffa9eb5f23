use Rattle.plane.specs.Geometry.{point}
use Rattle.plane_laws.proofs.Separation.{on_two_sides, one_first}
use Rattle.plane_laws.proofs.segments_on_two_sides.Goals as goal

pub returns : goal.returns
returns c = λ a b d e.
    on_two_sides (point c.args.points.now c.args.p) (point c.args.points.now c.args.q) (point c.args.points.now c.args.a) (point c.args.points.now c.args.b)
    (point c.args.points.now c.args.c) (point c.args.points.now c.args.d) (one_first (point c.args.points.now c.args.p) (point c.args.points.now c.args.q) c.requires) a b d e
