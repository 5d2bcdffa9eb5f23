use Rattle.plane.specs.Accepted.{AreAccepted}
use Rattle.price_defs.proofs.laws.Three.{three_at}
use Rattle.price_defs.proofs.weak_duality.alone_has_three.Goals as goal

pub returns : goal.returns
returns c = λ K p convex n inner alone. three_at c.args.points.now K p (let a : AreAccepted c.args.points.now = c.len-count.ensures.accepted in a.count.0) alone (convex.needs p n inner)
