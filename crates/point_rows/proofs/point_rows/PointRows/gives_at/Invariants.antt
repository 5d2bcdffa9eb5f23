use Rattle.point_rows.specs.Placed.{end_of}
use Rattle.point_rows.proofs.Chains.{IsWalking}
use Rattle.point_rows.proofs.point_rows.PointRows.gives_at.Given as goal

abbrev pub invariant-loop-next : goal.invariant-loop-next
invariant-loop-next l = IsWalking l.points l.self-inside.rows.items l.p l.r l.next l.sum

abbrev pub decreases-loop-next : goal.decreases-loop-next
decreases-loop-next l = end_of l.next
