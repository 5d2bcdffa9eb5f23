-- The first passes are of their board.
use Rattle.std.proofs.Common.{◌≡◌, ℕ, zero, suc, List, map, refl}
use Rattle.std.specs.List.{AllByRecursion}
use Rattle.index_sets.specs.Indices.{numbers_from}
use Rattle.vertex_claims.specs.Holding.{ClaimsSeen}
use Rattle.journal_defs.specs.declared.commit.Commit.{Commit}
use Rattle.seats.specs.declared.cells.Root.{Root}
use Rattle.seats.specs.Seats.{SeatSeen}
use Rattle.board.specs.Made.{first_pass}

pub first_of : (b : ClaimsSeen Root) (J : List Commit) (n count : ℕ) → AllByRecursion (λ (p : SeatSeen). p.of ≡ b) (map (first_pass b J) (numbers_from n count))
first_of b J n zero = tt
first_of b J n (suc count) = (refl, first_of b J (suc n) count)
