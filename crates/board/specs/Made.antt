-- A board at first.
use Rattle.std.specs.Prelude.{◌≡◌, ℕ, List, []}
use Rattle.index_sets.specs.Entries.{entries_of}
use Rattle.vertex_claims.specs.Holding.{ClaimsSeen}
use Rattle.journal_defs.specs.declared.commit.Commit.{Commit}
use Rattle.replay.specs.Replayed.{Replayed}
use Rattle.seats.specs.declared.cells.Root.{Root}
use Rattle.seats.specs.Ground.{caller_of}
use Rattle.seats.specs.Seats.{SeatSeen, IsShelf}

-- the board of a core for so many callers and with so much room
pub record IsBoardOf (core : Replayed) (callers room : ℕ) (b : ClaimsSeen Root) : Type 0 where
  pub points : b.root.points ≡ core.points
  pub start : b.root.start.items ≡ core.start
  pub first : b.root.chronicle.first ≡ core.journal
  pub callers_are : b.callers ≡ callers
  pub room_is : b.root.room ≡ room
  pub shelf : IsShelf b

-- a caller's pass: it has seen the journal
abbrev pub first_pass : ClaimsSeen Root → List Commit → ℕ → SeatSeen
first_pass b J c = record { of = b; caller = c; seen = J; mine = entries_of caller_of c J; held = []; wins = []; misses = [] }
