use Rattle.std.specs.Prelude.{◌≡◌, length, vec_capacity}
use Rattle.seats.specs.Seats.{IsSeat}
use Rattle.board.proofs.Held.{Leaves}
use Rattle.board.proofs.holding.give_all.Given as goal

abbrev pub invariant-loop-look : goal.invariant-loop-look
invariant-loop-look l = Leaves l.shelf l.fn.seat l.seat l.hands.items × (vec_capacity l.hands ≡ vec_capacity l.fn.hands) × IsSeat l.seat

abbrev pub decreases-loop-look : goal.decreases-loop-look
decreases-loop-look l = length l.hands.items
