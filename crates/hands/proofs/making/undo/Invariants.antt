use Rattle.std.proofs.Common.{◌≡◌, ◌≤◌, true}
use Rattle.std.specs.List.{list_any}
use Rattle.hands.specs.Hands.{hands_of, is_flip, HaveRoom}
use Rattle.hands.proofs.Made.{AreUndoneSo}
use Rattle.hands.proofs.making.undo.Given as goal

abbrev pub invariant-loop-k : goal.invariant-loop-k
invariant-loop-k l = (l.k ≤ l.count) × AreUndoneSo l.points l.edits l.count l.k (hands_of l.initial.hands) (hands_of l.hands) × (list_any is_flip l.edits ≡ true → HaveRoom l.k l.hands)

abbrev pub decreases-loop-k : goal.decreases-loop-k
decreases-loop-k l = l.k
