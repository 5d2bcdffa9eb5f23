use Rattle.plane_laws.proofs.Quadrilaterals.{alone}
use Rattle.plane_laws.proofs.quads.other_diagonal_of_four.Goals as goal

pub returns : goal.returns
returns c = λ h x y z. alone c.args.points.now c.args.a c.args.b c.args.c c.args.d c.args.u c.args.v h c.requires.u_in c.requires.v_in x y z
