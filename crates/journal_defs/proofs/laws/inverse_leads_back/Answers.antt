use Rattle.journal_defs.proofs.laws.Edits.{inverse_legal, inverse_leads}
use Rattle.journal_defs.proofs.laws.inverse_leads_back.Goals as goal

pub returns : goal.returns
returns c = record {
  legal = λ s e so legal. inverse_legal c.args._points.now s e so legal;
  back = λ s e so legal. inverse_leads c.args._points.now s e so legal;
}
