use Rattle.journal_defs.proofs.laws.Edits.{sound_after}
use Rattle.journal_defs.proofs.laws.legal_edits_keep_sound.Goals as goal

pub returns : goal.returns
returns c = λ s e so legal. sound_after c.args.points.now s e so legal
