use Rattle.hands.specs.Stars.{IsRoomier}
use Rattle.hands.proofs.Steps.{HaveGone}
use Rattle.hands.proofs.changing.reserve_all.Given as goal

abbrev pub invariant-loop-hand : goal.invariant-loop-hand
invariant-loop-hand l = HaveGone (IsRoomier 16) l.hand-index l.initial.hands l.hands
