use Rattle.std.specs.Prelude.{take}
use Rattle.lower_bounds.specs.Border.{AreBorderAmong}
use Rattle.lower_bounds.proofs.border_list.border_pairs.Given as goal

abbrev pub invariant-loop-e : goal.invariant-loop-e
invariant-loop-e l = AreBorderAmong l.points (take l.e-index l.pairs) l.list.items
