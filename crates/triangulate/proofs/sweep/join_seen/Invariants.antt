use Rattle.std.proofs.Common.{length}
use Rattle.triangulate.specs.Swept.{Round, IsJoining}
use Rattle.triangulate.proofs.sweep.join_seen.Given as goal

abbrev pub invariant-loop-a : goal.invariant-loop-a
invariant-loop-a l =
    (g : Round) → IsJoining l.points l.part l.initial.pairs.items l.initial.chain l.z g → IsJoining l.points l.part l.pairs.items l.chain l.z g

abbrev pub decreases-loop-a : goal.decreases-loop-a
decreases-loop-a l = length l.chain
