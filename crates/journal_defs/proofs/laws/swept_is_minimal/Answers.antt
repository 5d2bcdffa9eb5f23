use Rattle.journal_defs.proofs.laws.Later.{swept_minimal}
use Rattle.journal_defs.proofs.laws.swept_is_minimal.Goals as goal

pub returns : goal.returns
returns c = λ s dropped so swept. swept_minimal c.args._points.now s dropped so swept
