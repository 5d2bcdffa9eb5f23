use Rattle.journal_defs.proofs.laws.Edits.{drop_stays_illegal}
use Rattle.journal_defs.proofs.laws.drop_stays_refused.Goals as goal

pub returns : goal.returns
returns c = λ K L e part sub gone. drop_stays_illegal c.args._points.now K L e part sub gone
