use Rattle.std.specs.Prelude.{◌≡◌, length}
use Rattle.seats.specs.Seats.{IsSeat, ground_of}
use Rattle.board.specs.Looks.{IsRefreshing}
use Rattle.board.proofs.refreshing.fresh_claims.Given as goal

abbrev pub invariant-loop-k : goal.invariant-loop-k
invariant-loop-k l = IsRefreshing (ground_of l.shelf) l.claims l.k l.fn.seat l.seat l.fresh.items × (length l.fresh.items ≡ l.k) × IsSeat l.seat
