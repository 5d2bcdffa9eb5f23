use Rattle.plane_laws.proofs.Quadrilaterals.{after}
use Rattle.plane_laws.proofs.quads.diagonals_of_four.Goals as goal

pub returns : goal.returns
returns c = record {
  empty = λ h. (let r = after c.args.points.now c.args.a c.args.b c.args.c c.args.d h in (r.0, r.1));
  clear = λ h. (after c.args.points.now c.args.a c.args.b c.args.c c.args.d h).2;
  crosses = λ h. (after c.args.points.now c.args.a c.args.b c.args.c c.args.d h).3;
}
