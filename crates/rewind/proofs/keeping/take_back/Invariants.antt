use Rattle.std.proofs.Common.{◌≤◌, length}
use Rattle.rewind.specs.Kept.{AreKept}
use Rattle.rewind.proofs.keeping.take_back.Given as goal

abbrev pub invariant-loop-left : goal.invariant-loop-left
invariant-loop-left l = (l.k ≤ l.left) × (l.left ≤ length l.journal) × AreKept l.core l.left l.kept.keys

abbrev pub decreases-loop-left : goal.decreases-loop-left
decreases-loop-left l = l.left
