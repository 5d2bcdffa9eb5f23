use Rattle.std.proofs.Common.{◌≡◌, true}
use Rattle.journal_defs.proofs.laws.Mutual.{mutual_after}
use Rattle.journal_defs.proofs.laws.edits_keep_stars_mutual.Goals as goal

pub returns : goal.returns
returns c = λ e at V both. mutual_after c.args._points.now e at (λ u. V u ≡ true) both
