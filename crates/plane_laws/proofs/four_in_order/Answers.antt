use Rattle.plane.specs.Geometry.{point}
use Rattle.plane_laws.proofs.Orientations.{in_order}
use Rattle.plane_laws.proofs.four_in_order.Goals as goal

pub returns : goal.returns
returns c = λ f g h. in_order (point c.args.points.now c.args.p) (point c.args.points.now c.args.q) (point c.args.points.now c.args.r) (point c.args.points.now c.args.s) f g h
