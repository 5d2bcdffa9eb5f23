use Rattle.journal_defs.proofs.laws.Later.{legal_prefix}
use Rattle.journal_defs.proofs.laws.prefix_is_legal.Goals as goal

pub returns : goal.returns
returns c = λ start J L legal. legal_prefix c.args._points.now start J L legal
