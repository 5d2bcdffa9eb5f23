use Rattle.plane.specs.Geometry.{point}
use Rattle.plane_laws.proofs.Orientations.{area_four}
use Rattle.plane_laws.proofs.areas_of_four.Goals as goal

pub returns : goal.returns
returns c = area_four (point c.args.points.now c.args.p) (point c.args.points.now c.args.q) (point c.args.points.now c.args.r) (point c.args.points.now c.args.s)
