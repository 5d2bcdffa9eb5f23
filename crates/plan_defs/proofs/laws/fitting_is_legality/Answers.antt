use Rattle.plan_defs.proofs.laws.Showing.{fitting_fine}
use Rattle.plan_defs.proofs.laws.fitting_is_legality.Goals as goal

pub returns : goal.returns
returns c = λ D s R es so shows. fitting_fine c.args.points.now D s R es c.len-count.ensures.accepted so shows
