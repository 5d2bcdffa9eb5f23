-- What contracts see of a shelf and of a seat.
use Rattle.std.specs.Prelude.{◌≡◌, ℕ, ◌+◌, ◌<◌, ◌≤◌, List, length}
use Rattle.plane.specs.Accepted.{AreAccepted}
use Rattle.partition_defs.specs.Ascending.{IsAscending}
use Rattle.partition_defs.specs.Triangulation.{IsTriangulation}
use Rattle.index_sets.specs.Indices.{HasNoRepeat}
use Rattle.index_sets.specs.Entries.{entries_of}
use Rattle.chronicle.specs.History.{IsHistory}
use Rattle.vertex_claims.specs.Holding.{ClaimsSeen}
use Rattle.journal_defs.specs.declared.commit.Commit.{Commit}
use Rattle.journal_defs.specs.Journal.{IsLegalJournal}
use Rattle.seats.specs.declared.cells.Root.{Root}
use Rattle.seats.specs.Ground.{Ground, caller_of}

-- A shelf is known by its claims: what all callers share of it
abbrev pub ground_of : ClaimsSeen Root → Ground
ground_of c = record { points = c.root.points; start = c.root.start.items; callers = c.callers; room = c.root.room }

-- what holds of each shelf: the start triangulates the points; there is a place, and a part of the history, for each point
-- and one more; the callers are those of the history
pub record IsShelf (c : ClaimsSeen Root) : Type 0 where
  pub accepted : AreAccepted c.root.points
  pub ascending : IsAscending c.root.start.items
  pub triangulation : IsTriangulation c.root.points c.root.start.items
  pub room : c.root.room < 4294967296
  pub places : c.places ≡ length c.root.points + 1
  pub last : c.root.chronicle.last ≡ length c.root.points
  pub callers : c.root.chronicle.callers ≡ c.callers

-- A seat: of which shelf, its caller, what it has seen, which of that is its caller's, the places that it holds, the
-- places of the tries that it won, and of those that it lost, each with the number that it found there
pub record SeatSeen : Type 0 where
  pub of : ClaimsSeen Root
  pub caller : ℕ
  pub seen : List Commit
  pub mine : List Commit
  pub held : List ℕ
  pub wins : List ℕ
  pub misses : List (ℕ × ℕ)

-- what holds of each seat
pub record IsSeat (s : SeatSeen) : Type 0 where
  pub shelf : IsShelf s.of
  pub legal : IsLegalJournal s.of.root.points s.of.root.start.items s.seen
  pub least : 1 ≤ s.caller
  pub most : s.caller ≤ s.of.callers
  pub history : IsHistory caller_of s.of.root.chronicle s.seen
  pub mine : s.mine ≡ entries_of caller_of s.caller s.seen
  pub once : HasNoRepeat s.held
