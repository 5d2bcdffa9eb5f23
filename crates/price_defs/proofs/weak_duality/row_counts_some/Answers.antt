use Rattle.plane.specs.Accepted.{AreAccepted}
use Rattle.price_defs.proofs.laws.Counting.{counts_some}
use Rattle.price_defs.proofs.weak_duality.row_counts_some.Goals as goal

pub returns : goal.returns
returns c = λ row right t. counts_some c.args.points.now row (let a : AreAccepted c.args.points.now = c.len-count.ensures.accepted in a) right t
