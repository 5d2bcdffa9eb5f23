-- A board at the end.
use Rattle.std.specs.Prelude.{◌≡◌, ◌≤◌, List, ◌++◌, length}
use Rattle.std.specs.List.{AllByRecursion}
use Rattle.index_sets.specs.Entries.{entries_of}
use Rattle.chronicle.specs.History.{IsHistory}
use Rattle.vertex_claims.specs.Holding.{ClaimsSeen}
use Rattle.journal_defs.specs.declared.commit.Commit.{Commit}
use Rattle.replay.specs.Replayed.{Replayed}
use Rattle.seats.specs.declared.cells.Root.{Root}
use Rattle.seats.specs.Ground.{caller_of}
use Rattle.seats.specs.Seats.{SeatSeen}
use Rattle.board.specs.declared.own.Own.{Own}

-- what the pass has seen begins the journal, and its caller's commits there are exactly its own
pub record IsTold (J : List Commit) (p : SeatSeen) : Type 0 where
  pub begins : (more : List Commit) × (J ≡ p.seen ++ more)
  pub mine : entries_of caller_of p.caller J ≡ p.mine

-- the core of the whole history: points and start are those of the board, the journal is the history, which tells all passes
pub record IsFinished (b : ClaimsSeen Root) (passes : List SeatSeen) (core : Replayed) : Type 0 where
  pub points : core.points ≡ b.root.points
  pub start : core.start ≡ b.root.start.items
  pub history : IsHistory caller_of b.root.chronicle core.journal
  pub room : length core.journal ≤ b.root.room
  pub told : AllByRecursion (IsTold core.journal) passes

-- the same of a pass without its holder
pub record IsToldOwn (J : List Commit) (o : Own) : Type 0 where
  pub begins : (more : List Commit) × (J ≡ o.share.seen ++ more)
  pub mine : entries_of caller_of o.share.caller J ≡ o.share.mine
