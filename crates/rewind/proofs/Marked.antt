-- Kept pairs through edits.
use Rattle.std.proofs.Common.{◌≡◌, ℕ, ◌+◌, ◌<◌, List, [], ◌∷◌, ◌++◌, length, take, get_or, sym, ◌∙◌, ap}
use Rattle.std.proofs.lemmas.List.{take_more}
use Rattle.plane.specs.declared.segment.Pair.{Pair}
use Rattle.journal_defs.specs.declared.edit.Edit.{Edit}
use Rattle.journal_defs.specs.declared.commit.Commit.{Commit}
use Rattle.journal_defs.specs.Edits.{State, after, inverse_all}
use Rattle.journal_defs.specs.Journal.{replay, after_all}
use Rattle.journal_defs.proofs.laws.Journal.{after_append}
use Rattle.rewind.specs.Marks.{HaveMarked}

-- one edit more
pub marked_more : (old now new : List Pair) (edits : List Edit) (i : ℕ) (e : Edit) → i < length edits → e ≡ get_or edits i e → HaveMarked old now (after_all (take i edits)) → HaveMarked now new (after e)
    → HaveMarked old new (after_all (take (i + 1) edits))
marked_more old now new edits i e h at first then s is =
    let next : take (i + 1) edits ≡ take i edits ++ e ∷ [] = take_more edits i e h ∙ ap (λ (x : Edit). take i edits ++ x ∷ []) (sym at) in
    let whole : after_all (take (i + 1) edits) s ≡ after e (after_all (take i edits) s) = ap (λ (l : List Edit). after_all l s) next ∙ after_append (take i edits) (e ∷ []) s in
    then (after_all (take i edits) s) (sym (first s is)) ∙ ap (λ (t : State). t.kept) (sym whole)

-- the kept pairs before a commit from those after it
pub kept_back : (start : List Pair) (J : List Commit) (i : ℕ) (x : Commit) (edits : List Edit) (now new : List Pair) → edits ≡ inverse_all x.edits → HaveMarked now new (after_all edits)
    → after_all (inverse_all x.edits) (replay start (take (i + 1) J)) ≡ replay start (take i J) → now ≡ (replay start (take (i + 1) J)).kept → new ≡ (replay start (take i J)).kept
kept_back start J i x edits now new is marked leads so =
    marked (replay start (take (i + 1) J)) (sym so) ∙ ap (λ (t : State). t.kept) (ap (λ (es : List Edit). after_all es (replay start (take (i + 1) J))) is ∙ leads)
