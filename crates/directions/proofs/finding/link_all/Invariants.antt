use Rattle.std.proofs.Common.{◌≤◌, length}
use Rattle.directions.specs.Opposites.{AreLinked}
use Rattle.directions.proofs.finding.link_all.Given as goal

abbrev pub invariant-loop-left : goal.invariant-loop-left
invariant-loop-left l = (l.left ≤ length l.points) × AreLinked l.points l.p l.left l.heads l.next

abbrev pub decreases-loop-left : goal.decreases-loop-left
decreases-loop-left l = l.left
