use Rattle.plane.specs.Geometry.{point}
use Rattle.plane_laws.proofs.Separation.{line, one_first}
use Rattle.plane_laws.proofs.points_in_line.Goals as goal

pub returns : goal.returns
returns c = λ a b d.
    line (point c.args.points.now c.args.p) (point c.args.points.now c.args.q) (point c.args.points.now c.args.a) (point c.args.points.now c.args.b) (point c.args.points.now c.args.c)
    (one_first (point c.args.points.now c.args.p) (point c.args.points.now c.args.q) c.requires) a b d
