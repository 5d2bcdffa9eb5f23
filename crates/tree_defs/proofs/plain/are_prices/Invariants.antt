use Rattle.std.proofs.Common.{◌<◌, length}
use Rattle.plane.specs.declared.segment.Pair.{Pair}
use Rattle.tree_defs.specs.Leaves.{sets}
use Rattle.tree_defs.specs.Plain.{IsOver}
use Rattle.tree_defs.proofs.plain.are_prices.Given as goal

abbrev pub invariant-loop-i : goal.invariant-loop-i
invariant-loop-i l = (e : Pair) → e.lo < l.i → e.hi < length l.points → ¬ IsOver l.points l.costs (sets l.taken l.barred) l.c.q l.rows e
