use Rattle.std.specs.Prelude.{◌≡◌, ◌≤◌, vec_capacity}
use Rattle.hands.specs.Hands.{hands_of}
use Rattle.seats.specs.Seats.{IsSeat, ground_of}
use Rattle.board.specs.Phases.{IsHolding}
use Rattle.board.proofs.holding.claim_all.Given as goal

abbrev pub invariant-loop-k : goal.invariant-loop-k
invariant-loop-k l =
    IsHolding (ground_of l.shelf) l.claims l.k l.fn.seat l.seat (hands_of l.hands.items) × (l.seat.misses ≡ l.fn.seat.misses)
    × (vec_capacity l.fn.hands ≤ vec_capacity l.hands) × IsSeat l.seat
