use Rattle.plane.specs.Geometry.{point}
use Rattle.plane_laws.proofs.Separation.{beyond_first, beyond_second}
use Rattle.plane_laws.proofs.point_beyond_a_side.Goals as goal

pub returns-clause-first : goal.returns-clause-first
returns-clause-first c =
    beyond_first (point c.args.points.now c.args.p) (point c.args.points.now c.args.q) (point c.args.points.now c.args.z) (point c.args.points.now c.args.k) (point c.args.points.now c.args.l)

pub returns-clause-second : goal.returns-clause-second
returns-clause-second c =
    beyond_second (point c.args.points.now c.args.p) (point c.args.points.now c.args.q) (point c.args.points.now c.args.z) (point c.args.points.now c.args.k) (point c.args.points.now c.args.l)
