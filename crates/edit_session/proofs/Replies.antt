-- A session after one command more.
use Rattle.std.proofs.Common.{◌≡◌, ℕ, List, [], ◌∷◌, ◌++◌, length, reverse, sym, ◌∙◌, ap, subst}
use Rattle.std.proofs.lemmas.List.{reverse-append}
use Rattle.plane.specs.declared.coordinates.Point.{Point}
use Rattle.plane.specs.declared.segment.Pair.{Pair}
use Rattle.cost_defs.specs.Costs.{Costed}
use Rattle.journal_defs.specs.declared.edit.Edit.{Edit}
use Rattle.journal_defs.specs.declared.commit.Commit.{Commit as TheCommit}
use Rattle.journal_defs.specs.Journal.{replay, AreLegal}
use Rattle.journal_defs.specs.Weave.{next_commit}
use Rattle.rewind.specs.Undone.{IsInverseOf}
use Rattle.rewind.proofs.laws.Earlier.{IsPast}
use Rattle.edit_session.specs.declared.command.EditCommand.{EditCommand}
use Rattle.edit_session.specs.declared.command.EditCommand.TheVariants.{Look, Commit, Undo, Bound}
use Rattle.edit_session.specs.declared.command.Reply.{Reply}
use Rattle.edit_session.specs.declared.command.Reply.TheVariants as told
use Rattle.edit_session.specs.Sessions.{Session, IsCommitted, IsTakenBack, IsReplied}
use Rattle.edit_session.specs.Desks.{IsTower}
use Rattle.edit_session.proofs.Towers.{tower_committed, tower_legal, tower_taken, past_more}

-- a session is its two lists
pub session_one : (s t : Session) → s.journal ≡ t.journal → s.undoable ≡ t.undoable → s ≡ t
session_one s t h k = ap (λ (J : List TheCommit). record { journal = J; undoable = s.undoable }) h ∙ ap (λ (l : List ℕ). record { journal = t.journal; undoable = l }) k

-- what is true of every session: its journal is legal, and what can be taken back stands one on the other
pub record IsGoing (S : List Point) (start : List Pair) (s : Session) : Type 0 where
  pub past : IsPast S start s.journal
  pub tower : IsTower start s.journal (replay start s.journal) (reverse s.undoable)

-- the last number comes first
pub last_first : (numbers : List ℕ) (n : ℕ) → reverse (numbers ++ n ∷ []) ≡ n ∷ reverse numbers
last_first numbers n = reverse-append numbers (n ∷ [])

-- the edits of an undo are legal
pub taken_legal : (S : List Point) (start : List Pair) (s : Session) (rest : List ℕ) (number : ℕ) (edits : List Edit) → IsGoing S start s → s.undoable ≡ rest ++ number ∷ [] → IsInverseOf s.journal number edits
    → AreLegal S (replay start s.journal) edits
taken_legal S start s rest number edits going is inverse =
    tower_legal S start s.journal number (reverse rest) edits going.past
    (subst (λ (l : List ℕ). IsTower start s.journal (replay start s.journal) l) (ap reverse is ∙ last_first rest number) going.tower) inverse

-- a session after a commit
pub going_committed : (S : List Point) (start : List Pair) (s t : Session) (edits : List Edit) (number : ℕ) → IsGoing S start s → IsCommitted S start s t edits number → IsGoing S start t
going_committed S start s t edits number going done =
    let c : TheCommit = next_commit s.journal 1 edits in
    let J : List TheCommit = s.journal ++ c ∷ [] in
    let top : reverse t.undoable ≡ length J ∷ reverse s.undoable =
    ap reverse done.undoable ∙ last_first s.undoable number ∙ ap (λ (k : ℕ). k ∷ reverse s.undoable) (done.grows.told ∙ ap length done.grows.journal) in
    record {
      past = subst (IsPast S start) (sym done.grows.journal) (past_more S start s.journal c going.past done.legal);
      tower = subst (λ (l : List TheCommit). IsTower start l (replay start l) (reverse t.undoable)) (sym done.grows.journal)
          (subst (λ (l : List ℕ). IsTower start J (replay start J) l) (sym top) (tower_committed start s.journal c (reverse s.undoable) going.tower));
    }

-- and after an undo
pub going_taken : (S : List Point) (start : List Pair) (s t : Session) (number : ℕ) → IsGoing S start s → IsTakenBack s t number → IsGoing S start t
going_taken S start s t number going done =
    let c : TheCommit = next_commit s.journal 1 done.edits in
    let J : List TheCommit = s.journal ++ c ∷ [] in
    let tower : IsTower start s.journal (replay start s.journal) (done.last ∷ reverse t.undoable) =
    subst (λ (l : List ℕ). IsTower start s.journal (replay start s.journal) l) (ap reverse done.undoable ∙ last_first t.undoable done.last) going.tower in
    record {
      past = subst (IsPast S start) (sym done.grows.journal) (past_more S start s.journal c going.past (taken_legal S start s t.undoable done.last done.edits going done.undoable done.inverse));
      tower = subst (λ (l : List TheCommit). IsTower start l (replay start l) (reverse t.undoable)) (sym done.grows.journal)
          (tower_taken S start s.journal done.last (reverse t.undoable) c going.past tower done.inverse);
    }

pub going_next : (S : List Point) (D : List Costed) (start : List Pair) (s t : Session) (command : EditCommand) (reply : Reply) → IsGoing S start s → IsReplied S D start s command reply t → IsGoing S start t
going_next S D start s t (Look v) (told.Seen star stamp) going h = subst (IsGoing S start) (sym h.1) going
going_next S D start s t (Commit edits) (told.Commit number) going h = going_committed S start s t edits number going h
going_next S D start s t (Commit edits) (told.Illegal at why) going h = subst (IsGoing S start) (sym h.1) going
going_next S D start s t Undo (told.Commit number) going h = going_taken S start s t number going h
going_next S D start s t Undo told.Nothing going h = subst (IsGoing S start) (sym h.1) going
going_next S D start s t Bound (told.Bound value cost) going h = subst (IsGoing S start) (sym h.2) going
going_next S D start s t _ _ going h = absurd h
