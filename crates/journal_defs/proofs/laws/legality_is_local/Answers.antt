use Rattle.journal_defs.proofs.laws.Later.{local_all}
use Rattle.journal_defs.proofs.laws.legality_is_local.Goals as goal

pub returns : goal.returns
returns c = λ s t es so to alike legal. local_all c.args.points.now s t es so to alike legal
