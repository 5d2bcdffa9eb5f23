use Rattle.hands.specs.Stars.{HasChanged}
use Rattle.hands.proofs.Steps.{HaveGone}
use Rattle.hands.proofs.changing.change.Given as goal

abbrev pub invariant-loop-hand : goal.invariant-loop-hand
invariant-loop-hand l = HaveGone (HasChanged l.points l.edit) l.hand-index l.initial.hands l.hands
