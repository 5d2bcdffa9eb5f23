use Rattle.std.proofs.Common.{sym, subst}
use Rattle.plane.specs.Accepted.{AreAccepted}
use Rattle.report_defs.proofs.laws.Told.{solved}
use Rattle.report_defs.proofs.laws.solved_is_right.Goals as goal

pub returns : goal.returns
returns c = λ r E is name so bound summary. solved r E (subst AreAccepted (sym is) c.len-count.ensures.accepted) name so bound summary
