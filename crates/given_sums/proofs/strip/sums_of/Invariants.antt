use Rattle.std.proofs.Common.{take}
use Rattle.given_sums.specs.Sums.{AreSums}
use Rattle.given_sums.proofs.strip.sums_of.Given as goal

abbrev pub invariant-loop-k : goal.invariant-loop-k
invariant-loop-k l = AreSums l.points (take l.k l.rows) l.first l.width l.sums.items
