use Rattle.std.proofs.Common.{◌++◌}
use Rattle.journal_defs.proofs.laws.Later.{legal_prefix}
use Rattle.journal_defs.proofs.laws.Start.{sound_legal}
use Rattle.round_defs.proofs.laws.Grown.{rounds_grown}
use Rattle.round_defs.proofs.laws.rounds_stay_sound.Goals as goal

pub returns : goal.returns
returns c = λ D start J K L words rises tri legal h.
    sound_legal c.args.points.now start K c.len-count.ensures.accepted rises tri
    (legal_prefix c.args.points.now start K L (rounds_grown c.args.points.now D start J (K ++ L) words legal h).legal).edits
