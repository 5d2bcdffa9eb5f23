-- One command more on a core.
use Rattle.std.proofs.Common.{◌≡◌, ℕ, ◌+◌, ◌<◌, ◌≤◌, List, [], ◌∷◌, ◌++◌, length, take, slice_index_or, Result, Ok, Err, OnErr, arith, sym, ◌∙◌, ap, subst, refl}
use Rattle.std.proofs.lemmas.List.{take_more, take_all}
use Rattle.plane.specs.declared.coordinates.Point.{Point}
use Rattle.plane.specs.declared.segment.Pair.{Pair}
use Rattle.cost_defs.specs.Costs.{Costed}
use Rattle.journal_defs.specs.declared.commit.Commit.{Commit as TheCommit}
use Rattle.replay.specs.Replayed.{Replayed, IsAsBefore}
use Rattle.edit_session.specs.declared.command.EditCommand.{EditCommand}
use Rattle.edit_session.specs.declared.command.Reply.{Reply}
use Rattle.edit_session.specs.declared.desk.Desk.{Desk}
use Rattle.edit_session.specs.Sessions.{Session, IsReplied, AreReplied, HasPlayed, HasPlayedInPart, opened}
use Rattle.edit_session.specs.Desks.{IsDesk, session_of, HasReplied, IsPlaying}

replied_more : (S : List Point) (D : List Costed) (start : List Pair) (s t u : Session) (commands : List EditCommand) (replies : List Reply) (c : EditCommand) (r : Reply)
    → AreReplied S D start s commands replies t → IsReplied S D start t c r u → AreReplied S D start s (commands ++ c ∷ []) (replies ++ r ∷ []) u
replied_more S D start s t u [] [] c r h now = (u, subst (λ (x : Session). IsReplied S D start x c r u) h now, refl)
replied_more S D start s t u [] (q ∷ replies) c r h now = absurd h
replied_more S D start s t u (d ∷ commands) [] c r h now = absurd h
replied_more S D start s t u (d ∷ commands) (q ∷ replies) c r (v, one, more) now = (v, one, replied_more S D start v t u commands replies c r more now)

pub playing_begins : (old : Replayed) (D : List Costed) (desk : Desk) (commands : List EditCommand) → old.journal ≡ [] → desk.undoable.items ≡ [] → IsDesk old D desk → IsPlaying old old D desk commands [] 0
playing_begins old D desk commands empty none at = record {
  replied = ap (λ (J : List TheCommit). record { journal = J; undoable = desk.undoable.items }) empty ∙ ap (λ (l : List ℕ). record { journal = []; undoable = l }) none;
  points = refl;
  start = refl;
  few = (let e = ap length empty in omega (arith, e));
  keeps = at;
}

pub playing_more : (old now new : Replayed) (D : List Costed) (desk desk_new : Desk) (commands : List EditCommand) (replies : List Reply) (k : ℕ) (c : EditCommand) (r : Reply)
    → k < length commands → c ≡ slice_index_or commands k c → IsPlaying old now D desk commands replies k → HasReplied now new D desk desk_new c r → IsPlaying old new D desk_new commands (replies ++ r ∷ []) (k + 1)
playing_more old now new D desk desk_new commands replies k c r h at so done =
    let next : take (k + 1) commands ≡ take k commands ++ c ∷ [] = take_more commands k c h ∙ ap (λ (x : EditCommand). take k commands ++ x ∷ []) (sym at) in
    let here : IsReplied old.points D old.start (session_of now desk) c r (session_of new desk_new) =
    subst (λ (T : List Pair). IsReplied old.points D T (session_of now desk) c r (session_of new desk_new)) so.start
    (subst (λ (P : List Point). IsReplied P D now.start (session_of now desk) c r (session_of new desk_new)) so.points done.replied) in
    record {
      replied = subst (λ (xs : List EditCommand). AreReplied old.points D old.start opened xs (replies ++ r ∷ []) (session_of new desk_new)) (sym next)
          (replied_more old.points D old.start opened (session_of now desk) (session_of new desk_new) (take k commands) replies c r so.replied here);
      points = done.points ∙ so.points;
      start = done.start ∙ so.start;
      few = (let p = so.few in let q = done.few in omega (arith, p, q));
      keeps = done.keeps;
    }

-- what was played up to here, on a core that has stayed as it was
pub played_here : (old now new : Replayed) (D : List Costed) (desk : Desk) (commands : List EditCommand) (replies : List Reply) (k : ℕ) → IsPlaying old now D desk commands replies k → IsAsBefore now new
    → HasPlayed old new D (take k commands) replies
played_here old now new D desk commands replies k so same = record {
  session = session_of now desk;
  replied = so.replied;
  points = same.points ∙ so.points;
  start = same.start ∙ so.start;
  journal = same.journal;
}

pub as_before : (c : Replayed) → IsAsBefore c c
as_before c = record { points = refl; start = refl; journal = refl; room = omega arith }

pub played_part : (old now new : Replayed) (D : List Costed) (desk : Desk) (commands : List EditCommand) (replies : List Reply) (k : ℕ) → IsPlaying old now D desk commands replies k → IsAsBefore now new
    → HasPlayedInPart old new D commands
played_part old now new D desk commands replies k so same = (k, replies, played_here old now new D desk commands replies k so same)

-- nothing was played
pub played_none : (old new : Replayed) (D : List Costed) (commands : List EditCommand) → old.journal ≡ [] → IsAsBefore old new → HasPlayedInPart old new D commands
played_none old new D commands empty same = (
  0,
  [],
  record {
    session = opened;
    replied = refl;
    points = same.points;
    start = same.start;
    journal = same.journal ∙ empty;
  },
)

pub played_whole : (old now : Replayed) (D : List Costed) (desk : Desk) (commands : List EditCommand) (replies : List Reply) (k : ℕ) → length commands ≤ k → IsPlaying old now D desk commands replies k
    → HasPlayed old now D commands replies
played_whole old now D desk commands replies k h so =
    subst (λ (xs : List EditCommand). HasPlayed old now D xs replies) (take_all k commands h) (played_here old now now D desk commands replies k so (as_before now))

-- what holds anyway holds of a fault
pub on_err : {A E : Type 0} {P : Type 0} → (r : Result A E) → P → OnErr r P
on_err (Ok x) h = tt
on_err (Err e) h = h
