use Rattle.round_defs.specs.Rounds.{looks}
use Rattle.round_defs.proofs.laws.Once.{looks_stars, one_plans}
use Rattle.round_defs.proofs.laws.plans_of_a_round_are_determined.Goals as goal

pub returns : goal.returns
returns c = λ D start J v k plans others so hv a b.
    one_plans c.args.points.now D (looks c.args.points.now start J v) v k plans others (looks_stars c.args.points.now start J v c.len-count.ensures.accepted so hv) a b
