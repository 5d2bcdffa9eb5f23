-- What a desk keeps after each kind of reply.
use Rattle.std.proofs.Common.{◌≡◌, ℕ, ◌+◌, List, [], ◌∷◌, ◌++◌, length, reverse, Option, IfSome, arith, sym, ◌∙◌, ap, subst, refl}
use Rattle.std.proofs.lemmas.List.{length-append}
use Rattle.plane.specs.declared.coordinates.Point.{Point}
use Rattle.plane.specs.declared.segment.Pair.{Pair}
use Rattle.cost_defs.specs.Costs.{Costed, total}
use Rattle.star.specs.Stars.{Seen as TheStar}
use Rattle.journal_defs.specs.declared.edit.Edit.{Edit}
use Rattle.journal_defs.specs.declared.edit.Why.{Why}
use Rattle.journal_defs.specs.declared.commit.Commit.{Commit as TheCommit}
use Rattle.journal_defs.specs.Journal.{replay, AreLegal}
use Rattle.journal_defs.specs.Weave.{next_commit}
use Rattle.replay.specs.Applied.{IsFirstFault}
use Rattle.replay.specs.Replayed.{Replayed, GrowsBy, IsAsBefore, state_of}
use Rattle.rewind.specs.Undone.{IsInverseOf, IsUndone}
use Rattle.rewind.proofs.laws.Earlier.{IsPast}
use Rattle.rewind.proofs.laws.Undoing.{none_first}
use Rattle.edit_session.specs.declared.command.EditCommand.TheVariants.{Look, Commit, Undo, Bound}
use Rattle.edit_session.specs.declared.command.Reply.TheVariants as told
use Rattle.edit_session.specs.declared.desk.Desk.{Desk}
use Rattle.edit_session.specs.Bounds.{IsRaisedValue}
use Rattle.edit_session.specs.Sessions.{Grows, IsSight}
use Rattle.edit_session.specs.Desks.{AreStamps, IsTower, IsDesk, session_of, HasReplied}
use Rattle.edit_session.proofs.Replies.{session_one, last_first}
use Rattle.edit_session.proofs.Towers.{tower_committed, tower_legal, tower_taken}

-- a value known of one core is known of another of the same points
value_moved : (S T : List Point) (D : List Costed) (a b : Option ℕ) → T ≡ S → b ≡ a → IfSome a (IsRaisedValue S D) → IfSome b (IsRaisedValue T D)
value_moved S T D a b points same h =
    subst (λ (P : List Point). IfSome b (IsRaisedValue P D)) (sym points) (subst (λ (o : Option ℕ). IfSome o (IsRaisedValue S D)) (sym same) h)

grown_length : (old new : Replayed) (c : TheCommit) → GrowsBy old new (c ∷ []) → length new.journal ≡ length old.journal + 1
grown_length old new c grows = ap length grows.journal ∙ length-append old.journal (c ∷ [])

grows_by : (old new : Replayed) (desk desk_new : Desk) (edits : List Edit) (number : ℕ) → GrowsBy old new (next_commit old.journal 1 edits ∷ []) → number ≡ length new.journal
    → Grows (session_of old desk) (session_of new desk_new) edits number
grows_by old new desk desk_new edits number grows told = record { journal = grows.journal; told = told }

-- a look
pub looked : (c : Replayed) (D : List Costed) (desk : Desk) (v : ℕ) (star : TheStar) (stamp : ℕ) → IsDesk c D desk → IsSight c.points c.start c.journal v star stamp → HasReplied c c D desk desk (Look v) (told.Seen star stamp)
looked c D desk v star stamp at sight = record { replied = (sight, refl); points = refl; start = refl; few = omega arith; keeps = at }

-- a commit
pub committed : (old new : Replayed) (D : List Costed) (desk desk_new : Desk) (edits : List Edit) (number : ℕ) → IsDesk old D desk → AreLegal old.points (state_of old) edits
    → GrowsBy old new (next_commit old.journal 1 edits ∷ []) → number ≡ length new.journal → desk_new.undoable.items ≡ desk.undoable.items ++ number ∷ []
    → AreStamps (length new.points) new.journal desk_new.stamps.items → desk_new.value ≡ desk.value → HasReplied old new D desk desk_new (Commit edits) (told.Commit number)
committed old new D desk desk_new edits number at legal grows told more stamps value =
    let c : TheCommit = next_commit old.journal 1 edits in
    let count : number ≡ length (old.journal ++ c ∷ []) = told ∙ ap length grows.journal in
    let top : length (old.journal ++ c ∷ []) ∷ reverse desk.undoable.items ≡ reverse desk_new.undoable.items =
    ap (λ (k : ℕ). k ∷ reverse desk.undoable.items) (sym count) ∙ sym (last_first desk.undoable.items number) ∙ ap reverse (sym more) in
    let tower : IsTower old.start (old.journal ++ c ∷ []) (replay old.start (old.journal ++ c ∷ [])) (reverse desk_new.undoable.items) =
    subst (λ (l : List ℕ). IsTower old.start (old.journal ++ c ∷ []) (replay old.start (old.journal ++ c ∷ [])) l) top (tower_committed old.start old.journal c (reverse desk.undoable.items) at.tower) in
    record {
      replied = record { legal = legal; grows = grows_by old new desk desk_new edits number grows told; undoable = more };
      points = grows.points;
      start = grows.start;
      few = (let e = grown_length old new c grows in omega (arith, e));
      keeps = record {
        tower = subst (λ (T : List Pair). IsTower T new.journal (replay T new.journal) (reverse desk_new.undoable.items)) (sym grows.start)
            (subst (λ (J : List TheCommit). IsTower old.start J (replay old.start J) (reverse desk_new.undoable.items)) (sym grows.journal) tower);
        stamps = stamps;
        value = value_moved old.points new.points D desk.value desk_new.value grows.points value at.value;
      };
    }

-- a core and a desk that are as before
as_before : (old new : Replayed) (D : List Costed) (desk desk_new : Desk) → IsDesk old D desk → IsAsBefore old new → desk_new.undoable.items ≡ desk.undoable.items → desk_new.stamps.items ≡ desk.stamps.items
    → desk_new.value ≡ desk.value → IsDesk new D desk_new
as_before old new D desk desk_new at same undoable stamps value = record {
  tower = subst (λ (l : List ℕ). IsTower new.start new.journal (state_of new) (reverse l)) (sym undoable)
      (subst (λ (T : List Pair). IsTower T new.journal (replay T new.journal) (reverse desk.undoable.items)) (sym same.start)
      (subst (λ (J : List TheCommit). IsTower old.start J (replay old.start J) (reverse desk.undoable.items)) (sym same.journal) at.tower));
  stamps = subst (λ (l : List ℕ). AreStamps (length new.points) new.journal l) (sym stamps)
      (subst (λ (P : List Point). AreStamps (length P) new.journal desk.stamps.items) (sym same.points)
      (subst (λ (J : List TheCommit). AreStamps (length old.points) J desk.stamps.items) (sym same.journal) at.stamps));
  value = value_moved old.points new.points D desk.value desk_new.value same.points value at.value;
}

-- a commit that is refused
pub refused : (old new : Replayed) (D : List Costed) (desk desk_new : Desk) (edits : List Edit) (k : ℕ) (why : Why) → IsDesk old D desk → IsFirstFault old.points (state_of old) edits k why → IsAsBefore old new
    → desk_new.undoable.items ≡ desk.undoable.items → desk_new.stamps.items ≡ desk.stamps.items → desk_new.value ≡ desk.value → HasReplied old new D desk desk_new (Commit edits) (told.Illegal k why)
refused old new D desk desk_new edits k why at fault same undoable stamps value = record {
  replied = (fault, session_one (session_of new desk_new) (session_of old desk) same.journal undoable);
  points = same.points;
  start = same.start;
  few = (let e = ap length same.journal in omega (arith, e));
  keeps = as_before old new D desk desk_new at same undoable stamps value;
}

-- nothing to undo
pub nothing_back : (c : Replayed) (D : List Costed) (desk : Desk) → IsDesk c D desk → desk.undoable.items ≡ [] → HasReplied c c D desk desk Undo told.Nothing
nothing_back c D desk at none = record { replied = (none, refl); points = refl; start = refl; few = omega arith; keeps = at }

-- the topmost number is that of a commit
pub top_number : (c : Replayed) (D : List Costed) (desk : Desk) (rest : List ℕ) (number : ℕ) → IsDesk c D desk → desk.undoable.items ≡ rest ++ number ∷ [] → IsTower c.start c.journal (state_of c) (number ∷ reverse rest)
top_number c D desk rest number at is = subst (λ (l : List ℕ). IsTower c.start c.journal (state_of c) l) (ap reverse is ∙ last_first rest number) at.tower

-- and its inverse is legal
pub never_illegal : (c : Replayed) (D : List Costed) (desk : Desk) (rest : List ℕ) (number : ℕ) (edits : List Edit) (k : ℕ) (why : Why) → IsPast c.points c.start c.journal → IsDesk c D desk
    → desk.undoable.items ≡ rest ++ number ∷ [] → IsInverseOf c.journal number edits → IsFirstFault c.points (state_of c) edits k why → ⊥
never_illegal c D desk rest number edits k why past at is inverse fault =
    none_first c.points (state_of c) edits k (tower_legal c.points c.start c.journal number (reverse rest) edits past (top_number c D desk rest number at is) inverse) fault.first

-- an undo
pub taken : (old new : Replayed) (D : List Costed) (desk desk_new : Desk) (last number : ℕ) → IsPast old.points old.start old.journal → IsDesk old D desk → desk.undoable.items ≡ desk_new.undoable.items ++ last ∷ []
    → IsUndone old new 1 last number → AreStamps (length new.points) new.journal desk_new.stamps.items → desk_new.value ≡ desk.value → HasReplied old new D desk desk_new Undo (told.Commit number)
taken old new D desk desk_new last number past at is done stamps value =
    let c : TheCommit = next_commit old.journal 1 done.edits in
    let grows = done.grows in
    let tower : IsTower old.start (old.journal ++ c ∷ []) (replay old.start (old.journal ++ c ∷ [])) (reverse desk_new.undoable.items) =
    tower_taken old.points old.start old.journal last (reverse desk_new.undoable.items) c past (top_number old D desk desk_new.undoable.items last at is) done.inverse in
    record {
      replied = record { last = last; undoable = is; edits = done.edits; inverse = done.inverse; grows = grows_by old new desk desk_new done.edits number grows done.told };
      points = grows.points;
      start = grows.start;
      few = (let e = grown_length old new c grows in omega (arith, e));
      keeps = record {
        tower = subst (λ (T : List Pair). IsTower T new.journal (replay T new.journal) (reverse desk_new.undoable.items)) (sym grows.start)
            (subst (λ (J : List TheCommit). IsTower old.start J (replay old.start J) (reverse desk_new.undoable.items)) (sym grows.journal) tower);
        stamps = stamps;
        value = value_moved old.points new.points D desk.value desk_new.value grows.points value at.value;
      };
    }

-- a bound
pub bounded : (c : Replayed) (D : List Costed) (desk desk_new : Desk) (value cost : ℕ) → IsDesk c D desk_new → desk_new.undoable.items ≡ desk.undoable.items → IsRaisedValue c.points D value
    → cost ≡ total D (state_of c).kept → HasReplied c c D desk desk_new Bound (told.Bound value cost)
bounded c D desk desk_new value cost at undoable raised is = record {
  replied = (raised, is, session_one (session_of c desk_new) (session_of c desk) refl undoable);
  points = refl;
  start = refl;
  few = omega arith;
  keeps = at;
}
