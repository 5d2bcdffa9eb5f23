use Rattle.plane.specs.Accepted.{AreAccepted}
use Rattle.search_defs.proofs.laws.Scaled.{priced_good}
use Rattle.search_defs.proofs.pricing.priced_is_good.Goals as goal

pub returns : goal.returns
returns c = λ D h inner words q rows Q out list good is. priced_good c.args.points.now D h inner words q rows Q out (let a : AreAccepted c.args.points.now = c.len-count.ensures.accepted in a.count.0) list is good
