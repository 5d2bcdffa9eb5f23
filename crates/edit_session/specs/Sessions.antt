-- A session of edits: what each command is replied, and what it does. (This project's own.)
use Rattle.std.specs.Prelude.{◌≡◌, ℕ, ◌<◌, List, [], ◌∷◌, ◌++◌, length, take}
use Rattle.plane.specs.declared.coordinates.Point.{Point}
use Rattle.plane.specs.declared.segment.Pair.{Pair}
use Rattle.cost_defs.specs.Costs.{Costed, total}
use Rattle.star.specs.Stars.{Seen as TheStar}
use Rattle.star.specs.StarOf.{IsStarOf}
use Rattle.journal_defs.specs.declared.edit.Edit.{Edit}
use Rattle.journal_defs.specs.declared.commit.Commit.{Commit as TheCommit}
use Rattle.journal_defs.specs.Journal.{replay, last, AreLegal}
use Rattle.journal_defs.specs.Neighbours.{star_list}
use Rattle.journal_defs.specs.Weave.{next_commit}
use Rattle.replay.specs.Applied.{AreWithin, IsFirstFault}
use Rattle.replay.specs.Replayed.{Replayed}
use Rattle.rewind.specs.Undone.{IsInverseOf}
use Rattle.edit_session.specs.declared.command.EditCommand.{EditCommand}
use Rattle.edit_session.specs.declared.command.EditCommand.TheVariants.{Look, Commit, Undo, Bound}
use Rattle.edit_session.specs.declared.command.Reply.{Reply}
use Rattle.edit_session.specs.declared.command.Reply.TheVariants as told
use Rattle.edit_session.specs.Bounds.{IsRaisedValue}

-- a command of n points
abbrev pub IsCommandOf : ℕ → EditCommand → Type 0
IsCommandOf n (Look v) = v < n
IsCommandOf n (Commit edits) = AreWithin n edits
IsCommandOf n Undo = Unit {0}
IsCommandOf n Bound = Unit {0}

-- a session: its journal, and the numbers of the commits that undo can take back, the next one at the end
pub record Session : Type 0 where
  pub journal : List TheCommit
  pub undoable : List ℕ

-- before the first command
abbrev pub opened : Session
opened = record { journal = []; undoable = [] }

-- the star of v, and the number of the last commit that touched v
pub record IsSight (S : List Point) (start : List Pair) (J : List TheCommit) (v : ℕ) (star : TheStar) (stamp : ℕ) : Type 0 where
  pub of : IsStarOf S (replay start J).all (replay start J).kept v star
  pub list : star.list ≡ star_list S (replay start J) v
  pub latest : stamp ≡ last J v

-- the journal grows by the next commit of caller 1, which has this number
pub record Grows (s t : Session) (edits : List Edit) (number : ℕ) : Type 0 where
  pub journal : t.journal ≡ s.journal ++ next_commit s.journal 1 edits ∷ []
  pub told : number ≡ length t.journal

-- edits that are legal in their turn are committed, and the commit's number comes to the end of those to take back
pub record IsCommitted (S : List Point) (start : List Pair) (s t : Session) (edits : List Edit) (number : ℕ) : Type 0 where
  pub legal : AreLegal S (replay start s.journal) edits
  pub grows : Grows s t edits number
  pub undoable : t.undoable ≡ s.undoable ++ number ∷ []

-- the last number to take back is taken off, and the inverse of its commit is committed
pub record IsTakenBack (s t : Session) (number : ℕ) : Type 0 where
  pub last : ℕ
  pub undoable : s.undoable ≡ t.undoable ++ last ∷ []
  pub edits : List Edit
  pub inverse : IsInverseOf s.journal last edits
  pub grows : Grows s t edits number

-- the command is replied so in the session s, which is t then
abbrev pub IsReplied : List Point → List Costed → List Pair → Session → EditCommand → Reply → Session → Type 0
IsReplied S D start s (Look v) (told.Seen star stamp) t = IsSight S start s.journal v star stamp × (t ≡ s)
IsReplied S D start s (Commit edits) (told.Commit number) t = IsCommitted S start s t edits number
IsReplied S D start s (Commit edits) (told.Illegal at why) t = IsFirstFault S (replay start s.journal) edits at why × (t ≡ s)
IsReplied S D start s Undo (told.Commit number) t = IsTakenBack s t number
IsReplied S D start s Undo told.Nothing t = (s.undoable ≡ []) × (t ≡ s)
IsReplied S D start s Bound (told.Bound value cost) t =
    IsRaisedValue S D value × (cost ≡ total D (replay start s.journal).kept) × (t ≡ s)
IsReplied S D start s _ _ t = ⊥

-- the commands are replied so, one after the other
abbrev pub AreReplied : List Point → List Costed → List Pair → Session → List EditCommand → List Reply → Session → Type 0
AreReplied S D start s [] [] t = t ≡ s
AreReplied S D start s (c ∷ commands) (r ∷ replies) t =
    (u : Session) × IsReplied S D start s c r u × AreReplied S D start u commands replies t
AreReplied S D start s _ _ t = ⊥

-- the commands were played on the core, from an empty journal, and it has come to the session's journal
pub record HasPlayed (old new : Replayed) (D : List Costed) (commands : List EditCommand) (replies : List Reply) : Type 0 where
  pub session : Session
  pub replied : AreReplied old.points D old.start opened commands replies session
  pub points : new.points ≡ old.points
  pub start : new.start ≡ old.start
  pub journal : new.journal ≡ session.journal

-- the first commands were played, and no others
abbrev pub HasPlayedInPart : (old new : Replayed) → List Costed → List EditCommand → Type 0
HasPlayedInPart old new D commands = (k : ℕ) × (replies : List Reply) × HasPlayed old new D (take k commands) replies
