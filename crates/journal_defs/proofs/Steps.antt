-- A step of a loop over edits.
use Rattle.std.proofs.Common.{◌≡◌, ℕ, ◌+◌, ◌<◌, List, [], ◌∷◌, ◌++◌, length, get_or, take, sym, ◌∙◌, ap, subst}
use Rattle.std.proofs.lemmas.List.{take_more}
use Rattle.plane.specs.declared.coordinates.Point.{Point}
use Rattle.partition_defs.specs.Partition.{AreWithin}
use Rattle.journal_defs.specs.declared.edit.Edit.{Edit}
use Rattle.journal_defs.specs.Edits.{State, after, IsLegal}
use Rattle.journal_defs.specs.Journal.{after_all, AreLegal, IsFirstIllegal}
use Rattle.journal_defs.proofs.laws.Journal.{after_append, legal_append}
use Rattle.journal_defs.proofs.laws.Edits.{within_after}

pub stepped : (S : List Point) (s now next : State) (es : List Edit) (k : ℕ) (e : Edit) → k < length es → e ≡ get_or es k e → now ≡ after_all (take k es) s → AreLegal S s (take k es) → AreWithin S now.all → IsLegal S now e → next ≡ after e now
    → (next ≡ after_all (take (k + 1) es) s) × AreLegal S s (take (k + 1) es) × AreWithin S next.all
stepped S s now next es k e hk at is legal inside here done =
    let more : take (k + 1) es ≡ take k es ++ e ∷ [] = take_more es k e hk ∙ ap (λ (x : Edit). take k es ++ x ∷ []) (sym at) in (
      done ∙ ap (after e) is ∙ sym (ap (λ (xs : List Edit). after_all xs s) more ∙ after_append (take k es) (e ∷ []) s),
      subst (λ (xs : List Edit). AreLegal S s xs) (sym more) (legal_append S (take k es) (e ∷ []) s legal (subst (λ (t : State). IsLegal S t e) is here, tt)),
      subst (λ (t : State). AreWithin S t.all) (sym done) (within_after S now e inside here),
    )

pub stopped : (S : List Point) (s now : State) (es : List Edit) (k : ℕ) (e : Edit) → k < length es → e ≡ get_or es k e → now ≡ after_all (take k es) s → AreLegal S s (take k es) → ¬ IsLegal S now e → IsFirstIllegal S s es k
stopped S s now es k e hk at is legal illegal = record {
  within = hk;
  before = legal;
  edit = e;
  at = sym at;
  illegal = subst (λ (t : State). ¬ IsLegal S t e) is illegal;
}

pub begun : (S : List Point) (s now : State) → now ≡ s → AreWithin S s.all → AreWithin S now.all
begun S s now is inside = subst (λ (t : State). AreWithin S t.all) (sym is) inside
