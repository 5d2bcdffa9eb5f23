use Rattle.std.proofs.Common.{◌≡◌, take, length}
use Rattle.point_rows.specs.Placed.{IsLinked}
use Rattle.point_rows.proofs.point_rows.linked.Given as goal

abbrev pub invariant-loop-k : goal.invariant-loop-k
invariant-loop-k l = IsLinked (take l.k l.rows) l.last.items l.before.items × (length l.last.items ≡ length l.points)
