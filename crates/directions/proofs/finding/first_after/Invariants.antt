use Rattle.std.proofs.Common.{◌-◌, length}
use Rattle.directions.proofs.Found.{IsSearched}
use Rattle.directions.proofs.finding.first_after.Given as goal

abbrev pub invariant-loop-r : goal.invariant-loop-r
invariant-loop-r l = IsSearched l.points l.p l.q l.r

abbrev pub decreases-loop-r : goal.decreases-loop-r
decreases-loop-r l = length l.points - l.r
