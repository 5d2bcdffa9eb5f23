use Rattle.std.specs.Prelude.{◌≤◌, length, vec_capacity}
use Rattle.std.specs.Vec.Iter.{into_iter_items, into_iter_len}
use Rattle.board.proofs.Laid.{Lifts}
use Rattle.board.proofs.laying.take_up.Given as goal

abbrev pub invariant-loop-cell : goal.invariant-loop-cell
invariant-loop-cell l = Lifts l.root l.commits.items (into_iter_items l.initial.rest) (into_iter_items l.rest) l.stars.items l.whole × (length l.root.points ≤ vec_capacity l.stars)

abbrev pub decreases-loop-cell : goal.decreases-loop-cell
decreases-loop-cell l = into_iter_len l.rest
