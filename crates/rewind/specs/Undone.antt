-- The undo of a commit.
use Rattle.std.specs.Prelude.{◌≡◌, ◌≢◌, ℕ, ◌-◌, ◌≤◌, ◌⊎◌, slice_index_or, List, [], ◌∷◌, length}
use Rattle.std.specs.List.{Any}
use Rattle.journal_defs.specs.declared.edit.Edit.{Edit}
use Rattle.journal_defs.specs.declared.commit.Commit.{Commit}
use Rattle.journal_defs.specs.Edits.{inverse_all}
use Rattle.journal_defs.specs.Journal.{AreLegal}
use Rattle.journal_defs.specs.Weave.{next_commit}
use Rattle.replay.specs.Replayed.{Replayed, state_of, GrowsBy}
use Rattle.replay.specs.Applied.{IsFirstFault, IsFlip}
use Rattle.rewind.specs.declared.undoing.UndoFault.{UndoFault}
use Rattle.rewind.specs.declared.undoing.UndoFault.TheVariants.{NoSuch, NoMemory, Illegal}

-- some commit has this number; the first one has 1
abbrev pub HasNumber : List Commit → ℕ → Type 0
HasNumber J number = (1 ≤ number) × (number ≤ length J)

-- the commit has this number
pub record IsNumbered (J : List Commit) (number : ℕ) (c : Commit) : Type 0 where
  pub has : HasNumber J number
  pub at : slice_index_or J (number - 1) c ≡ c

-- the edits are the inverse of the commit of this number
pub record IsInverseOf (J : List Commit) (number : ℕ) (edits : List Edit) : Type 0 where
  pub commit : Commit
  pub numbered : IsNumbered J number commit
  pub inverse : edits ≡ inverse_all commit.edits

-- The inverse of the commit of this number is legal in its turn, and has come to the journal as the caller's next commit,
-- which has the number that is answered.
pub record IsUndone (old new : Replayed) (caller number answer : ℕ) : Type 0 where
  pub edits : List Edit
  pub inverse : IsInverseOf old.journal number edits
  pub legal : AreLegal old.points (state_of old) edits
  pub grows : GrowsBy old new (next_commit old.journal caller edits ∷ [])
  pub told : answer ≡ length new.journal

-- The undo is refused so: no commit has the number, or an edit of the inverse isn't legal in its turn, which is never so
-- at the last commit. Without memory: there was no room for a commit, or the inverse has a flip.
abbrev pub IsUndoRefused : Replayed → ℕ → UndoFault → Type 0
IsUndoRefused c number (NoSuch count) = (¬ HasNumber c.journal number) × (count ≡ length c.journal)
IsUndoRefused c number NoMemory =
    (edits : List Edit) × IsInverseOf c.journal number edits × ((c.spare ≡ 0) ⊎ Any IsFlip edits)
IsUndoRefused c number (Illegal at why) =
    (edits : List Edit) × IsInverseOf c.journal number edits × IsFirstFault c.points (state_of c) edits at why
    × (number ≢ length c.journal)
