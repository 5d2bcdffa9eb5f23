-- Which commit a core takes, and why it refuses one.
use Rattle.std.specs.Prelude.{◌≡◌, ◌≢◌, ℕ, ◌+◌, ◌<◌, ◌⊎◌, take, List}
use Rattle.std.specs.List.{All, Any}
use Rattle.plane.specs.declared.coordinates.Point.{Point}
use Rattle.journal_defs.specs.declared.edit.Edit.{Edit}
use Rattle.journal_defs.specs.declared.edit.Edit.TheVariants.{Drop, Keep, Flip}
use Rattle.journal_defs.specs.declared.edit.Why.{Why}
use Rattle.journal_defs.specs.declared.commit.Commit.{Commit}
use Rattle.journal_defs.specs.Edits.{State}
use Rattle.journal_defs.specs.Journal.{AreLegal, IsFirstIllegal, after_all, made}
use Rattle.journal_defs.specs.Neighbours.{IsWhy}
use Rattle.replay.specs.declared.fault.ApplyFault.{ApplyFault}
use Rattle.replay.specs.declared.fault.ApplyFault.TheVariants.{WrongSeq, Illegal, NoMemory}
use Rattle.replay.specs.Replayed.{Replayed, state_of}

-- the edit is of pairs of n points
abbrev pub IsWithin : ℕ → Edit → Type 0
IsWithin n (Drop e) = e.hi < n
IsWithin n (Keep e) = e.hi < n
IsWithin n (Flip e f) = (e.hi < n) × (f.hi < n)

abbrev pub AreWithin : ℕ → List Edit → Type 0
AreWithin n edits = All (IsWithin n) edits

-- an edit that takes a pair for another
abbrev pub IsFlip : Edit → Type 0
IsFlip (Flip e f) = Unit {0}
IsFlip _ = ⊥

-- its number is the next one of its caller
abbrev pub IsInSequence : Replayed → Commit → Type 0
IsInSequence c commit = commit.seq ≡ made commit.caller c.journal + 1

-- its number is right, and its edits are legal in their turn
pub record IsNext (c : Replayed) (commit : Commit) : Type 0 where
  pub sequence : IsInSequence c commit
  pub edits : AreLegal c.points (state_of c) commit.edits

-- the edit at k is the first that isn't legal in its turn, and why
pub record IsFirstFault (S : List Point) (s : State) (edits : List Edit) (k : ℕ) (why : Why) : Type 0 where
  pub first : IsFirstIllegal S s edits k
  pub tells : IsWhy S (after_all (take k edits) s) first.edit why

-- The commit is refused so. Without memory: it would have the right number, and either there was no room for it, or it has
-- a flip.
abbrev pub IsRefused : Replayed → Commit → ApplyFault → Type 0
IsRefused c commit (WrongSeq wanted) = (commit.seq ≢ wanted) × (wanted ≡ made commit.caller c.journal + 1)
IsRefused c commit (Illegal at why) = IsInSequence c commit × IsFirstFault c.points (state_of c) commit.edits at why
IsRefused c commit NoMemory = IsInSequence c commit × ((c.spare ≡ 0) ⊎ Any IsFlip commit.edits)
