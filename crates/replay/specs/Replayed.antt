-- A core: a journal and the state that is its replay.
use Rattle.std.specs.Prelude.{◌≡◌, ℕ, ◌≤◌, List, ◌++◌, length}
use Rattle.plane.specs.declared.coordinates.Point.{Point}
use Rattle.plane.specs.declared.segment.Pair.{Pair}
use Rattle.partition_defs.specs.Ascending.{IsAscending}
use Rattle.partition_defs.specs.Triangulation.{IsTriangulation}
use Rattle.journal_defs.specs.declared.commit.Commit.{Commit}
use Rattle.journal_defs.specs.Edits.{State, IsSound}
use Rattle.journal_defs.specs.Journal.{replay, IsLegalJournal}
use Rattle.replay.specs.declared.machine.TheConstants.{MOST_COMMITS}

-- what contracts see of a core: the points, the start, the journal, and for how many more commits there is room
pub record Replayed : Type 0 where
  pub points : List Point
  pub start : List Pair
  pub journal : List Commit
  pub spare : ℕ

-- its state: the replay of the journal from the start
abbrev pub state_of : Replayed → State
state_of c = replay c.start c.journal

-- what is true of every core: the journal is legal from a triangulation, so the state is sound
pub record IsCore (c : Replayed) : Type 0 where
  pub ascending : IsAscending c.start
  pub triangulation : IsTriangulation c.points c.start
  pub legal : IsLegalJournal c.points c.start c.journal
  pub few : length c.journal ≤ MOST_COMMITS
  pub sound : IsSound c.points (state_of c)

-- these commits have come to the journal
pub record GrowsBy (old new : Replayed) (more : List Commit) : Type 0 where
  pub points : new.points ≡ old.points
  pub start : new.start ≡ old.start
  pub journal : new.journal ≡ old.journal ++ more

-- points, start and journal, and so the state, are as before, and there is no less room
pub record IsAsBefore (old new : Replayed) : Type 0 where
  pub points : new.points ≡ old.points
  pub start : new.start ≡ old.start
  pub journal : new.journal ≡ old.journal
  pub room : old.spare ≤ new.spare
