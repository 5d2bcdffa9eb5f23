use Rattle.journal_defs.proofs.laws.Edits.{inverses_lead}
use Rattle.journal_defs.proofs.laws.inverses_lead_back.Goals as goal

pub returns : goal.returns
returns c = record {
  legal = λ s es so legal. (inverses_lead c.args.points.now s es so legal).0;
  back = λ s es so legal. (inverses_lead c.args.points.now s es so legal).1;
}
