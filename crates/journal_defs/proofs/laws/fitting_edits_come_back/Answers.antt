use Rattle.std.proofs.Common.{◌≡◌, true}
use Rattle.journal_defs.proofs.laws.Undone.{undone}
use Rattle.journal_defs.proofs.laws.fitting_edits_come_back.Goals as goal

pub returns : goal.returns
returns c = λ at V e v stars both all here fits. undone c.args.points.now at (λ u. V u ≡ true) e v c.len-count.ensures.accepted stars both all here fits
