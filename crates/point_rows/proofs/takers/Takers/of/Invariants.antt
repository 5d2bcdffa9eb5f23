use Rattle.std.proofs.Common.{◌≡◌, take}
use Rattle.std.specs.List.{sum_by}
use Rattle.point_rows.proofs.Taking.{of_pair}
use Rattle.point_rows.proofs.takers.Takers.of.Given as goal

abbrev pub invariant-loop-k : goal.invariant-loop-k
invariant-loop-k l = l.sum ≡ sum_by (of_pair l.e) (take l.k l.self-inside.list.items)
