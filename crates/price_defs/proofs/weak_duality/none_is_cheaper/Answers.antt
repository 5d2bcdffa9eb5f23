use Rattle.plane.specs.Accepted.{AreAccepted}
use Rattle.price_defs.proofs.laws.Duality.{none_is_cheaper}
use Rattle.price_defs.proofs.weak_duality.none_is_cheaper.Goals as goal

pub returns : goal.returns
returns c = none_is_cheaper c.args.points.now (let a : AreAccepted c.args.points.now = c.len-count.ensures.accepted in a.count.0)
