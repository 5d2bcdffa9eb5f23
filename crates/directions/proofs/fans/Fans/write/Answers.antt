use Rattle.directions.proofs.Coming.{fan_of_halves}
use Rattle.directions.proofs.fans.Fans.write.Goals as goal

pub returns-clause-fan : goal.returns-clause-fan
returns-clause-fan c =
    fan_of_halves c.args.points.now c.args.p _ _ c.len-count.ensures.accepted c.requires.p_in c.in_ok-add_half-2.ensures.part c.in_ok-add_half-2.ensures.kept c.in_ok-add_half.ensures.there c.in_ok-add_half-2.ensures.there
