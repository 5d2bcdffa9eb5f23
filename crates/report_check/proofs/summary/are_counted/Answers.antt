use Rattle.std.proofs.Common.{arith}
use Rattle.report_check.proofs.summary.are_counted.Goals as goal

pub returns : goal.returns
returns c = (λ h. ((λ i l. c.loop-c.invariant i (omega arith)), c.are_of_first.ensures.0 h), λ p. c.are_of_first.ensures.1 p.1)
