use Rattle.std.proofs.Common.{sym, subst}
use Rattle.plane.specs.Accepted.{AreAccepted}
use Rattle.solver_top.proofs.Reports.{solved_right}
use Rattle.solver_top.proofs.laws.solved_is_right.Goals as goal

pub returns : goal.returns
returns c = λ r E is so. solved_right r E (subst AreAccepted (sym is) c.len-count.ensures.accepted) so
