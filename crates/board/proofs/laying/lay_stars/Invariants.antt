use Rattle.std.specs.Prelude.{◌+◌, ◌≤◌, length, vec_capacity}
use Rattle.std.specs.Vec.Iter.{into_iter_items, into_iter_len}
use Rattle.board.proofs.Laid.{Lays}
use Rattle.board.proofs.laying.lay_stars.Given as goal

abbrev pub invariant-loop-star : goal.invariant-loop-star
invariant-loop-star l = Lays l.root l.fn.whole l.fn.stars.items (into_iter_items l.stars) l.whole l.cells.items × (length l.root.points + 1 ≤ vec_capacity l.cells)

abbrev pub decreases-loop-star : goal.decreases-loop-star
decreases-loop-star l = into_iter_len l.stars
