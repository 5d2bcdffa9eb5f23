use Rattle.std.proofs.Common.{◌≡◌, ◌<◌}
use Rattle.plane.specs.declared.segment.Pair.{Pair}
use Rattle.tree_defs.specs.Leaves.{sets}
use Rattle.tree_defs.specs.Plain.{IsOver}
use Rattle.tree_defs.proofs.plain.has_over_from.Given as goal

abbrev pub invariant-loop-j : goal.invariant-loop-j
invariant-loop-j l = (e : Pair) → e.lo ≡ l.i → e.hi < l.j → ¬ IsOver l.points l.costs (sets l.taken l.barred) l.q l.rows e
