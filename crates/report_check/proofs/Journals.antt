-- A journal that is replayed commit by commit.
use Rattle.std.proofs.Common.{◌≡◌, ◌≢◌, ℕ, zero, suc, ◌+◌, ◌<◌, List, [], ◌∷◌, ◌++◌, length, take, get_or, sym, ◌∙◌, ap, subst, arith}
use Rattle.std.proofs.lemmas.List.{take_more}
use Rattle.plane.specs.declared.coordinates.Point.{Point}
use Rattle.plane.specs.declared.segment.Pair.{Pair}
use Rattle.journal_defs.specs.declared.edit.Edit.{Edit}
use Rattle.journal_defs.specs.declared.edit.Edit.TheVariants.{Drop, Keep, Flip}
use Rattle.journal_defs.specs.declared.commit.Commit.{Commit}
use Rattle.journal_defs.specs.Edits.{State, after, IsLegal}
use Rattle.journal_defs.specs.Journal.{IsLegalJournal, AreLegal, after_all, IsFirstIllegal, made, replay}
use Rattle.journal_defs.proofs.laws.Later.{more_legal}
use Rattle.report_io.specs.Limits.{IsEditBelow, IsCommitWithin}
use Rattle.replay.specs.Replayed.{Replayed, IsCore, GrowsBy}
use Rattle.replay.specs.Applied.{IsWithin, AreWithin}
use Rattle.report_defs.specs.Verdicts.{IsFirstBadCommit}
use Rattle.report_check.specs.Replays.{IsOf}

edit_within : (n : ℕ) (e : Edit) → IsEditBelow n e → IsWithin n e
edit_within n (Drop e) h = h
edit_within n (Keep e) h = h
edit_within n (Flip e f) h = h

pub edits_within : (n : ℕ) (c : Commit) → IsCommitWithin n c → AreWithin n c.edits
edits_within n c within k d h = edit_within n (get_or c.edits k d) (within.edits k d h)

-- the core has taken the first k commits of the list
pub record HasTaken (old new : Replayed) (J : List Commit) (k : ℕ) : Type 0 where
  pub of : IsOf old new
  pub core : IsCore new
  pub journal : new.journal ≡ take k J

-- one more commit
pub taken_more : (old mid new : Replayed) (J : List Commit) (k : ℕ) (c : Commit) → k < length J → c ≡ get_or J k c → HasTaken old mid J k → GrowsBy mid new (c ∷ []) → IsCore new → HasTaken old new J (k + 1)
taken_more old mid new J k c h is so grows core = record {
  of = record { points = grows.points ∙ so.of.points; start = grows.start ∙ so.of.start };
  core = core;
  journal = grows.journal ∙ ap (λ (L : List Commit). L ++ c ∷ []) so.journal ∙ ap (λ (x : Commit). take k J ++ x ∷ []) is ∙ sym (take_more J k c h);
}

-- a commit that isn't taken is the first bad one
pub first_bad : (old mid : Replayed) (J : List Commit) (k number : ℕ) (c : Commit) → k < length J → c ≡ get_or J k c → number ≡ k + 1 → HasTaken old mid J k
    → (IsLegalJournal mid.points mid.start (mid.journal ++ c ∷ []) → ⊥) → IsFirstBadCommit old.points old.start J number
first_bad old mid J k number c h is count so never =
    let next : mid.journal ++ c ∷ [] ≡ take (k + 1) J = ap (λ (L : List Commit). L ++ c ∷ []) so.journal ∙ ap (λ (x : Commit). take k J ++ x ∷ []) is ∙ sym (take_more J k c h) in
    record {
      before = k;
      number = count;
      within = h;
      legal = subst (λ (S : List Point). IsLegalJournal S old.start (take k J)) so.of.points
          (subst (λ (A : List Pair). IsLegalJournal mid.points A (take k J)) so.of.start (subst (λ (L : List Commit). IsLegalJournal mid.points mid.start L) so.journal so.core.legal));
      illegal = λ legal. never (subst (λ (L : List Commit). IsLegalJournal mid.points mid.start L) (sym next)
          (subst (λ (A : List Pair). IsLegalJournal mid.points A (take (k + 1) J)) (sym so.of.start) (subst (λ (S : List Point). IsLegalJournal S old.start (take (k + 1) J)) (sym so.of.points) legal)));
    }

-- a commit with another number
pub other_number : (S : List Point) (start : List Pair) (J : List Commit) (c : Commit) (wanted : ℕ) → c.seq ≢ wanted → wanted ≡ made c.caller J + 1 → IsLegalJournal S start (J ++ c ∷ []) → ⊥
other_number S start J c wanted ne is legal = ne ((more_legal S start J c legal).1 ∙ sym is)

-- each edit of legal ones is legal in its turn
edit_here : (S : List Point) (es : List Edit) (k : ℕ) (e : Edit) (s : State) → k < length es → get_or es k e ≡ e → AreLegal S s es → IsLegal S (after_all (take k es) s) e
edit_here S [] k e s h at legal = absurd (omega arith)
edit_here S (x ∷ es) zero e s h at legal = subst (λ y. IsLegal S s y) at legal.0
edit_here S (x ∷ es) (suc k) e s h at legal = edit_here S es k e (after x s) (omega arith) at legal.1

-- a commit with an edit that isn't legal in its turn
pub illegal_edit : (S : List Point) (start : List Pair) (J : List Commit) (c : Commit) (k : ℕ) → IsFirstIllegal S (replay start J) c.edits k → IsLegalJournal S start (J ++ c ∷ []) → ⊥
illegal_edit S start J c k first legal = first.illegal (edit_here S c.edits k first.edit (replay start J) first.within first.at (more_legal S start J c legal).0)
