use Rattle.std.proofs.Common.{take}
use Rattle.edit_session.specs.Desks.{IsSumming}
use Rattle.edit_session.proofs.bounding.border_cost.Given as goal

abbrev pub invariant-loop-e : goal.invariant-loop-e
invariant-loop-e l = IsSumming l.points l.costs (take l.e-index l.pairs) l.sum
