use Rattle.std.proofs.Common.{sym, subst}
use Rattle.plane.specs.Accepted.{AreAccepted}
use Rattle.report_defs.proofs.laws.Told.{told}
use Rattle.report_defs.proofs.laws.right_is_told.Goals as goal

pub returns : goal.returns
returns c = λ r is right. told r (subst AreAccepted (sym is) c.len-count.ensures.accepted) right
