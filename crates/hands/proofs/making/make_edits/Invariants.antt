use Rattle.std.proofs.Common.{◌≡◌, ◌-◌, true}
use Rattle.std.specs.List.{list_any}
use Rattle.hands.specs.Hands.{hands_of, is_flip, HaveRoom}
use Rattle.hands.proofs.Made.{AreMadeSo}
use Rattle.hands.proofs.making.make_edits.Given as goal

abbrev pub invariant-loop-k : goal.invariant-loop-k
invariant-loop-k l = AreMadeSo l.points l.edits l.k (hands_of l.initial.hands) (hands_of l.hands) × (list_any is_flip l.edits ≡ true → HaveRoom (16 - l.k) l.hands)
