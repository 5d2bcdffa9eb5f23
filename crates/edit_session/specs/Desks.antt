-- For private clauses.
-- What a session keeps beside its core.
use Rattle.std.specs.Prelude.{◌≡◌, ℕ, ◌+◌, ◌-◌, ◌*◌, ◌<◌, ◌≤◌, if◌then◌else◌, Bool, List, [], ◌∷◌, length, take, reverse, slice_index_or, IfSome}
use Rattle.std.specs.List.{Contains}
use Rattle.plane.specs.declared.coordinates.Point.{Point}
use Rattle.plane.specs.declared.segment.Pair.{Pair}
use Rattle.plane.specs.Geometry.{IsBorderPair}
use Rattle.partition_defs.specs.Ascending.{IsAscending}
use Rattle.cost_defs.specs.Costs.{Costed, total}
use Rattle.journal_defs.specs.declared.commit.Commit.{Commit}
use Rattle.journal_defs.specs.Edits.{State}
use Rattle.journal_defs.specs.Journal.{replay, opening, last}
use Rattle.replay.specs.Replayed.{Replayed, state_of}
use Rattle.rewind.specs.Undone.{HasNumber}
use Rattle.edit_session.specs.declared.command.EditCommand.{EditCommand}
use Rattle.edit_session.specs.declared.command.Reply.{Reply}
use Rattle.edit_session.specs.declared.desk.Desk.{Desk}
use Rattle.edit_session.specs.Bounds.{IsRaisedValue}
use Rattle.edit_session.specs.Sessions.{Session, IsReplied, AreReplied, opened}

-- no ascending list of pairs of 5,000 points is longer
abbrev pub most_pairs : ℕ
most_pairs = 13000000

-- the entries that pass the test have become this number, and the others are as before
pub record AreStamped (at : ℕ → Bool) (number : ℕ) (old new : List ℕ) : Type 0 where
  pub len : length new ≡ length old
  pub is : (v : ℕ) → v < length old → slice_index_or new v 0 ≡ (if at v then number else slice_index_or old v 0)

-- for each of n vertices the number of the last commit that touched it
pub record AreStamps (n : ℕ) (J : List Commit) (stamps : List ℕ) : Type 0 where
  pub len : length stamps ≡ n
  pub is : (v : ℕ) → v < n → slice_index_or stamps v 0 ≡ last J v

-- The numbers to take back, the next one first: the state is that after the commit of the first one, and before this commit
-- it was that after the commit of the next; before the last one's commit it was the opening.
abbrev pub IsTower : List Pair → List Commit → State → List ℕ → Type 0
IsTower start J s [] = s ≡ opening start
IsTower start J s (number ∷ rest) =
    HasNumber J number × (s ≡ replay start (take number J)) × IsTower start J (replay start (take (number - 1) J)) rest

pub record IsDesk (c : Replayed) (D : List Costed) (desk : Desk) : Type 0 where
  pub tower : IsTower c.start c.journal (state_of c) (reverse desk.undoable.items)
  pub stamps : AreStamps (length c.points) c.journal desk.stamps.items
  pub value : IfSome desk.value (IsRaisedValue c.points D)

-- a core with what is kept beside it as a session
abbrev pub session_of : Replayed → Desk → Session
session_of c desk = record { journal = c.journal; undoable = desk.undoable.items }

-- the command was replied so, and core and desk have come to the session after it
pub record HasReplied (old new : Replayed) (D : List Costed) (desk desk_new : Desk) (command : EditCommand) (reply : Reply) : Type 0 where
  pub replied : IsReplied old.points D old.start (session_of old desk) command reply (session_of new desk_new)
  pub points : new.points ≡ old.points
  pub start : new.start ≡ old.start
  pub few : length new.journal ≤ length old.journal + 1
  pub keeps : IsDesk new D desk_new

-- the first k commands were replied so, and core and desk have come to the session after them
pub record IsPlaying (old now : Replayed) (D : List Costed) (desk : Desk) (commands : List EditCommand) (replies : List Reply) (k : ℕ) : Type 0 where
  pub replied : AreReplied old.points D old.start opened (take k commands) replies (session_of now desk)
  pub points : now.points ≡ old.points
  pub start : now.start ≡ old.start
  pub few : length now.journal ≤ k
  pub keeps : IsDesk now D desk

-- B are the border pairs among these, ascending
pub record AreBorderOf (S : List Point) (pairs B : List Pair) : Type 0 where
  pub ascending : IsAscending B
  pub there : (e : Pair) → Contains B e → Contains pairs e × IsBorderPair S e.lo e.hi
  pub all : (e : Pair) → Contains pairs e → IsBorderPair S e.lo e.hi → Contains B e

-- the sum is what the border pairs among these cost
pub record IsSumming (S : List Point) (D : List Costed) (pairs : List Pair) (sum : ℕ) : Type 0 where
  pub border : List Pair
  pub of : AreBorderOf S pairs border
  pub is : sum ≡ total D border
  pub small : sum ≤ 1000 * length pairs
