use Rattle.dual_prices.proofs.laws.InPlace.{valid_light}
use Rattle.bound_worker.proofs.trial.present_of.Goals as goal

pub make-requires-clause-light : goal.make-requires-clause-light
make-requires-clause-light c =
    valid_light c.args.points.now c.args.costs.now c.args.q c.args.rows.items c.len-count.ensures.accepted c.requires.valid c.requires.takers c.requires.small c.list-listed.ensures.costs.within
