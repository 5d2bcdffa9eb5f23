use Rattle.journal_defs.proofs.laws.Turns.{fitting_is_legality}
use Rattle.journal_defs.proofs.laws.fitting_is_legality.Goals as goal

pub returns : goal.returns
returns c = λ s at es so inside stars. fitting_is_legality c.args.points.now s at es c.len-count.ensures.accepted so inside stars
