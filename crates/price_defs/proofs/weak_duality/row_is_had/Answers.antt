use Rattle.plane.specs.Accepted.{AreAccepted}
use Rattle.price_defs.proofs.laws.Counted.{row_had, row_off}
use Rattle.price_defs.proofs.weak_duality.row_is_had.Goals as goal

pub returns : goal.returns
returns c = λ K row convex d right. (row_had c.args.points.now K row (let a : AreAccepted c.args.points.now = c.len-count.ensures.accepted in a.count.0) convex.needs right, row_off c.args.points.now K row d convex.plane right)
