-- For private clauses.
-- All cells, laid and taken up.
use Rattle.std.specs.Prelude.{◌≡◌, ◌<◌, ◌≤◌, true, List, length}
use Rattle.plane.specs.Accepted.{AreAccepted}
use Rattle.partition_defs.specs.Ascending.{IsAscending}
use Rattle.partition_defs.specs.Triangulation.{IsTriangulation}
use Rattle.star.specs.Stars.{Seen}
use Rattle.subdivision.specs.Layout.{AreStarsOf}
use Rattle.index_sets.specs.Indices.{contains}
use Rattle.chronicle.specs.History.{ShareSeen, IsShare}
use Rattle.journal_defs.specs.declared.commit.Commit.{Commit}
use Rattle.journal_defs.specs.Journal.{replay, IsLegalJournal}
use Rattle.seats.specs.declared.cells.Root.{Root}
use Rattle.seats.specs.Ground.{caller_of}

-- the start triangulates the points, and the last part is the journal's
pub record IsBase (r : Root) : Type 0 where
  pub accepted : AreAccepted r.points
  pub ascending : IsAscending r.start.items
  pub triangulation : IsTriangulation r.points r.start.items
  pub last : r.chronicle.last ≡ length r.points
  pub room : r.room < 4294967296

-- the stars are those after the journal, which is legal; the share has seen all of it and owns its part
pub record IsTakenUp (r : Root) (stars : List Seen) (J : List Commit) (share : ShareSeen Commit) : Type 0 where
  pub legal : IsLegalJournal r.points r.start.items J
  pub few : length J ≤ r.room
  pub round : AreStarsOf r.points (replay r.start.items J).all (replay r.start.items J).kept stars
  pub of : share.of ≡ r.chronicle
  pub caller : share.caller ≡ 0
  pub seen : share.seen ≡ J
  pub owns : contains share.parts (length r.points) ≡ true
  pub history : IsShare caller_of share
