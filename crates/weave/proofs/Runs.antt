-- The law of the weave holds of every run.
use Rattle.std.proofs.Common.{◌≡◌, ◌≢◌, ℕ, Bool, true, cond, List, [], ◌∷◌, ◌++◌, Option, Some, None, sym, ◌∙◌, ap, subst, refl, append_assoc, append-nil}
use Rattle.std.proofs.lemmas.Bool.{false_from_ne_true}
use Rattle.std.proofs.lemmas.Bool.Decides.{Decides-eqb}
use Rattle.plane.specs.declared.coordinates.Point.{Point}
use Rattle.plane.specs.declared.segment.Pair.{Pair}
use Rattle.plane.specs.Accepted.{AreAccepted}
use Rattle.partition_defs.specs.Ascending.{IsAscending}
use Rattle.partition_defs.specs.Triangulation.{IsTriangulation}
use Rattle.journal_defs.specs.declared.edit.Edit.{Edit}
use Rattle.journal_defs.specs.declared.commit.Commit.{Commit}
use Rattle.journal_defs.specs.Journal.{IsLegalJournal, Spares, last}
use Rattle.journal_defs.specs.Weave.{Event, Weave, next_commit, IsPossible, step, steps, IsRun}
use Rattle.journal_defs.specs.Weave.Event.{Take, Miss, Append, Back}
use Rattle.journal_defs.proofs.laws.Journal.{last_spared, star_spared}
use Rattle.journal_defs.proofs.laws.Start.{sound_legal}
use Rattle.journal_defs.proofs.laws.Woven.{legal_step, owner_stays}
use Rattle.edit.specs.Plans.{are_touching}
use Rattle.weave.specs.Law.{Keeps, AppendsNothing, KeepsStar, IsLawful}
use Rattle.weave.specs.Woven.{commits_of}

-- the weave after two lists of events
pub steps_append : (w : Weave) (es fs : List Event) → steps w (es ++ fs) ≡ steps (steps w es) fs
steps_append w [] fs = refl
steps_append w (e ∷ es) fs = steps_append (step w e) es fs

-- its journal has the commits of the events at its end
pub steps_journal : (w : Weave) (es : List Event) → (steps w es).journal ≡ w.journal ++ commits_of w.journal es
steps_journal w [] = sym (append-nil w.journal)
steps_journal w (Take c v ∷ es) = steps_journal (step w (Take c v)) es
steps_journal w (Miss c v ∷ es) = steps_journal (step w (Miss c v)) es
steps_journal w (Append c edits ∷ es) =
    let next = next_commit w.journal c edits in
    steps_journal (step w (Append c edits)) es ∙ append_assoc w.journal (next ∷ []) (commits_of (w.journal ++ next ∷ []) es)
steps_journal w (Back c v ∷ es) = steps_journal (step w (Back c v)) es

-- who takes a place owns it
taken_owner : (w : Weave) (c v : ℕ) → (step w (Take c v)).owner v ≡ Some c
taken_owner w c v = ap (λ (b : Bool). cond b (Some c) (w.owner v)) ((Decides-eqb v v).1 refl)

one_caller : (x : Option ℕ) (c d : ℕ) → x ≡ Some c → x ≡ Some d → c ≡ d
one_caller x c d a b = let e : Some c ≡ Some d = sym a ∙ b in cc

some_none : (x : Option ℕ) (c : ℕ) → x ≡ Some c → x ≡ None → ⊥
some_none x c a b = let e : Some c ≡ None = sym a ∙ b in cc

module _ (S : List Point) (start : List Pair) (n : ℕ) where
  -- after each beginning of a run the journal is legal
  legal_begun : (w : Weave) (done rest : List Event) → IsLegalJournal S start w.journal → IsRun S start n w (done ++ rest) → IsLegalJournal S start (steps w done).journal
  legal_begun w [] rest legal run = legal
  legal_begun w (e ∷ done) rest legal run = legal_begun (step w e) done rest (legal_step S start n w e legal run.0) run.1

  -- one event doesn't take a place from its owner
  owner_next : (w : Weave) (e : Event) (c v : ℕ) → w.owner v ≡ Some c → IsPossible S start n w e → e ≢ Back c v → (step w e).owner v ≡ Some c
  owner_next w e c v own may keeps = owner_stays S start n w (e ∷ []) c v own (may, tt) (keeps, tt)

  owner_since : (w : Weave) (since rest : List Event) (c v : ℕ) → w.owner v ≡ Some c → IsRun S start n w (since ++ rest) → Keeps c v since → (steps w since).owner v ≡ Some c
  owner_since w [] rest c v own run keeps = own
  owner_since w (e ∷ since) rest c v own run keeps = owner_since (step w e) since rest c v (owner_next w e c v own run.0 keeps.0) run.1 keeps.1

  spared_since : (w : Weave) (since rest : List Event) (c d v : ℕ) (edits : List Edit) → w.owner v ≡ Some c → IsRun S start n w (since ++ Append d edits ∷ rest) → Keeps c v since
      → are_touching edits v ≡ true → d ≡ c
  spared_since w [] rest c d v edits own run keeps touched = one_caller (w.owner v) d c (run.0.vertices v touched) own
  spared_since w (e ∷ since) rest c d v edits own run keeps touched = spared_since (step w e) since rest c d v edits (owner_next w e c v own run.0 keeps.0) run.1 keeps.1 touched

  apart_since : (w : Weave) (since rest : List Event) (c d v : ℕ) → w.owner v ≡ Some c → IsRun S start n w (since ++ Take d v ∷ rest) → ¬ Keeps c v since
  apart_since w [] rest c d v own run keeps = some_none (w.owner v) c own run.0
  apart_since w (e ∷ since) rest c d v own run keeps = apart_since (step w e) since rest c d v (owner_next w e c v own run.0 keeps.0) run.1 keeps.1

  -- the commits of other callers don't touch an owner's vertex
  commits_spare : (w : Weave) (since rest : List Event) (c v : ℕ) → w.owner v ≡ Some c → IsRun S start n w (since ++ rest) → Keeps c v since → AppendsNothing c since
      → Spares (commits_of w.journal since) v
  commits_spare w [] rest c v own run keeps others = tt
  commits_spare w (Take d u ∷ since) rest c v own run keeps others =
      commits_spare (step w (Take d u)) since rest c v (owner_next w (Take d u) c v own run.0 keeps.0) run.1 keeps.1 others.1
  commits_spare w (Miss d u ∷ since) rest c v own run keeps others = commits_spare w since rest c v own run.1 keeps.1 others.1
  commits_spare w (Back d u ∷ since) rest c v own run keeps others =
      commits_spare (step w (Back d u)) since rest c v (owner_next w (Back d u) c v own run.0 keeps.0) run.1 keeps.1 others.1
  commits_spare w (Append d edits ∷ since) rest c v own run keeps others = (
    false_from_ne_true (are_touching edits v) (λ touched. others.0 (one_caller (w.owner v) d c (run.0.vertices v touched) own)),
    commits_spare (step w (Append d edits)) since rest c v own run.1 keeps.1 others.1,
  )

  held_after : (w : Weave) (done since rest : List Event) (c v : ℕ) → IsRun S start n w (done ++ Take c v ∷ since ++ rest) → Keeps c v since → (steps w (done ++ Take c v ∷ since)).owner v ≡ Some c
  held_after w [] since rest c v run keeps = owner_since (step w (Take c v)) since rest c v (taken_owner w c v) run.1 keeps
  held_after w (e ∷ done) since rest c v run keeps = held_after (step w e) done since rest c v run.1 keeps

  apart_after : (w : Weave) (done since rest : List Event) (c d v : ℕ) → IsRun S start n w (done ++ Take c v ∷ since ++ Take d v ∷ rest) → ¬ Keeps c v since
  apart_after w [] since rest c d v run keeps = apart_since (step w (Take c v)) since rest c d v (taken_owner w c v) run.1 keeps
  apart_after w (e ∷ done) since rest c d v run keeps = apart_after (step w e) done since rest c d v run.1 keeps

  spared_after : (w : Weave) (done since rest : List Event) (c d v : ℕ) (edits : List Edit) → IsRun S start n w (done ++ Take c v ∷ since ++ Append d edits ∷ rest) → Keeps c v since
      → are_touching edits v ≡ true → d ≡ c
  spared_after w [] since rest c d v edits run keeps touched = spared_since (step w (Take c v)) since rest c d v edits (taken_owner w c v) run.1 keeps touched
  spared_after w (e ∷ done) since rest c d v edits run keeps touched = spared_after (step w e) done since rest c d v edits run.1 keeps touched

  last_after : (w : Weave) (done since rest : List Event) (c v : ℕ) → IsRun S start n w (done ++ Take c v ∷ since ++ rest) → Keeps c v since → AppendsNothing c since
      → last (steps w (done ++ Take c v ∷ since)).journal v ≡ last (steps w done).journal v
  last_after w [] since rest c v run keeps others =
      ap (λ (J : List Commit). last J v) (steps_journal (step w (Take c v)) since)
      ∙ last_spared w.journal (commits_of w.journal since) v (commits_spare (step w (Take c v)) since rest c v (taken_owner w c v) run.1 keeps others)
  last_after w (e ∷ done) since rest c v run keeps others = last_after (step w e) done since rest c v run.1 keeps others

  star_after : (w : Weave) (done since rest : List Event) (c v : ℕ) → IsRun S start n w (done ++ Take c v ∷ since ++ rest) → Keeps c v since → AppendsNothing c since
      → KeepsStar S start (steps w done).journal (steps w (done ++ Take c v ∷ since)).journal v
  star_after w [] since rest c v run keeps others =
      subst (λ (J : List Commit). KeepsStar S start w.journal J v) (sym (steps_journal (step w (Take c v)) since))
      (λ a. star_spared S start w.journal (commits_of w.journal since) v a (commits_spare (step w (Take c v)) since rest c v (taken_owner w c v) run.1 keeps others))
  star_after w (e ∷ done) since rest c v run keeps others = star_after (step w e) done since rest c v run.1 keeps others

  again : (w : Weave) (es fs : List Event) → es ≡ fs → IsRun S start n w fs → IsRun S start n w es
  again w es fs is run = subst (IsRun S start n w) (sym is) run

  pub lawful_run : (w : Weave) (events : List Event) → AreAccepted S → IsAscending start → IsTriangulation S start → IsLegalJournal S start w.journal → IsRun S start n w events
      → IsLawful S start w events
  lawful_run w events accepted ascending triangulation legal run = record {
    legal = λ done rest is.
        (let later = legal_begun w done rest legal (again w (done ++ rest) events is run) in
        record { legal = later; partition = (sound_legal S start (steps w done).journal accepted ascending triangulation later.edits).partition });
    one = λ done rest c d v is. one_caller ((steps w done).owner v) c d;
    held = λ done since rest c v is. held_after w done since rest c v (again w (done ++ Take c v ∷ since ++ rest) events is run);
    apart = λ done since rest c d v is. apart_after w done since rest c d v (again w (done ++ Take c v ∷ since ++ Take d v ∷ rest) events is run);
    spared = λ done since rest c d v edits is. spared_after w done since rest c d v edits (again w (done ++ Take c v ∷ since ++ Append d edits ∷ rest) events is run);
    keeps_last = λ done since rest c v is. last_after w done since rest c v (again w (done ++ Take c v ∷ since ++ rest) events is run);
    keeps_star = λ done since rest c v is. star_after w done since rest c v (again w (done ++ Take c v ∷ since ++ rest) events is run);
  }
