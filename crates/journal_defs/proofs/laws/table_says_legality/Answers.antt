use Rattle.journal_defs.proofs.laws.Table.{fits_legal, legal_fits}
use Rattle.journal_defs.proofs.laws.table_says_legality.Goals as goal

pub returns : goal.returns
returns c = λ s at e so stars. (fits_legal c.args.points.now s at e so stars, legal_fits c.args.points.now s at e so stars)
