use Rattle.std.proofs.Common.{◌+◌, All, length}
use Rattle.vertex_claims.specs.Closing.{IsIdleAt, Gathers}
use Rattle.vertex_claims.proofs.closing.join_all.Given as goal

abbrev pub invariant-loop-other : goal.invariant-loop-other
invariant-loop-other g l = All (IsIdleAt l.top.table_id) l.others.items × Gathers l.top.table_id l.seat (length l.others.items) (length l.fn.others.items + 1)

abbrev pub decreases-loop-other : goal.decreases-loop-other
decreases-loop-other g l = goal.left-loop-other g l
