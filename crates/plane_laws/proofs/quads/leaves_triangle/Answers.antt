use Rattle.plane_laws.proofs.Quadrilaterals.{leaves}
use Rattle.plane_laws.proofs.quads.leaves_triangle.Goals as goal

pub returns : goal.returns
returns c = λ x y z. leaves c.args.points.now c.args.p c.args.q c.args.r c.args.u c.args.v x y z
