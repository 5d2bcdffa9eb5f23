use Rattle.journal_defs.proofs.laws.Start.{sound_legal}
use Rattle.journal_defs.proofs.laws.every_state_is_sound.Goals as goal

pub returns : goal.returns
returns c = λ start J rises tri legal. sound_legal c.args.points.now start J c.len-count.ensures.accepted rises tri legal.edits
