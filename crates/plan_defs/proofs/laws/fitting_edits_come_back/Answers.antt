use Rattle.plan_defs.proofs.laws.Region.{region_back}
use Rattle.plan_defs.proofs.laws.fitting_edits_come_back.Goals as goal

pub returns : goal.returns
returns c = λ R e apart agree all fits. region_back c.args.points.now R e c.len-count.ensures.accepted apart agree.stars agree.marked all fits
