use Rattle.std.proofs.Common.{sym}
use Rattle.planner.proofs.blocking.opens_untouched.Goals as goal

pub returns-then-not-are_touched : goal.returns-then-not-are_touched
returns-then-not-are_touched c = λ t. (sym c.if-not-are_touched.ensures, c.opens_end.ensures t)
