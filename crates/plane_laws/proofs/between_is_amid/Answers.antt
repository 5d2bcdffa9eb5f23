use Rattle.plane.specs.Geometry.{point}
use Rattle.plane_laws.proofs.Between.{between_is_amid, amid_is_between}
use Rattle.plane_laws.proofs.between_is_amid.Goals as goal

pub returns : goal.returns
returns c = λ h. (
  (λ g. (let m = between_is_amid (point c.args.points.now c.args.k) (point c.args.points.now c.args.p) (point c.args.points.now c.args.q) h g.0 g.1 in (g.0, m.0, m.1))),
  (λ g. (g.0, amid_is_between (point c.args.points.now c.args.k) (point c.args.points.now c.args.p) (point c.args.points.now c.args.q) g.1 g.2 g.0)),
)
