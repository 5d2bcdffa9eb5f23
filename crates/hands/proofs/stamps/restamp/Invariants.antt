use Rattle.hands.specs.Stars.{IsRestamped}
use Rattle.hands.proofs.Steps.{HaveGone}
use Rattle.hands.proofs.stamps.restamp.Given as goal

abbrev pub invariant-loop-hand : goal.invariant-loop-hand
invariant-loop-hand l = HaveGone (IsRestamped l.commit l.number) l.hand-index l.initial.hands l.hands
