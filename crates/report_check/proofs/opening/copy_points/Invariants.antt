use Rattle.std.proofs.Common.{◌≡◌, take}
use Rattle.report_check.proofs.opening.copy_points.Given as goal

abbrev pub invariant-loop-k : goal.invariant-loop-k
invariant-loop-k l = l.list.items ≡ take l.k l.points
