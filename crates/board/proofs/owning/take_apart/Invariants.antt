use Rattle.std.specs.Prelude.{◌≡◌, ◌+◌, ◌≤◌, ◌++◌, List, length, vec_capacity}
use Rattle.std.specs.Vec.Iter.{into_iter_items, into_iter_len}
use Rattle.seats.specs.Seats.{SeatSeen}
use Rattle.board.specs.Owning.{AreTogether}
use Rattle.board.proofs.owning.take_apart.Given as goal

abbrev pub invariant-loop-pass : goal.invariant-loop-pass
invariant-loop-pass l =
    ((done : List SeatSeen) × (l.fn.passes.items ≡ done ++ into_iter_items l.passes) × AreTogether l.holders.items l.owns.items done)
    × (length l.holders.items + length (into_iter_items l.passes) ≤ vec_capacity l.holders)
    × (length l.owns.items + length (into_iter_items l.passes) ≤ vec_capacity l.owns)

abbrev pub decreases-loop-pass : goal.decreases-loop-pass
decreases-loop-pass l = into_iter_len l.passes
