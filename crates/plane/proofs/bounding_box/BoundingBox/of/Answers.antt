use Rattle.std.proofs.Common.{rules}
use Rattle.plane.proofs.Boxed.{plain_interval}
use Rattle.plane.proofs.bounding_box.BoundingBox.of.Goals as goal

pub returns : goal.returns
returns c =
    (plain_interval c.of.result c.args.p.x c.args.q.x (search rules) (search rules) c.of.ensures, plain_interval c.of-2.result c.args.p.y c.args.q.y (search rules) (search rules) c.of-2.ensures)
