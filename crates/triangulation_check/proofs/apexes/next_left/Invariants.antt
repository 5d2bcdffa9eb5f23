use Rattle.std.proofs.Common.{IfSome}
use Rattle.triangulation_check.specs.Ends.{IsLeftEnd}
use Rattle.triangulation_check.proofs.apexes.next_left.Given as goal

abbrev pub invariant-loop-end : goal.invariant-loop-end
invariant-loop-end l = IfSome l.best (IsLeftEnd l.points l.run l.p l.q)
