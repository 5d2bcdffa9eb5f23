use Rattle.border.specs.Chain.{HasPoints}
use Rattle.border.proofs.chain.add_points.Given as goal

abbrev pub invariant-loop-i : goal.invariant-loop-i
invariant-loop-i l = HasPoints l.order l.chain l.i l.initial.list.items l.list.items
