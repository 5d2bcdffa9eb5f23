-- The undo of a commit.
use Rattle.std.proofs.Common.{◌≡◌, ℕ, zero, suc, ◌+◌, ◌-◌, ◌<◌, ◌≤◌, List, [], ◌∷◌, length, take, slice_index_or, arith, sym, ◌∙◌, ap, subst}
use Rattle.std.proofs.lemmas.List.{take_all}
use Rattle.plane.specs.declared.coordinates.Point.{Point}
use Rattle.plane.specs.declared.segment.Pair.{Pair}
use Rattle.journal_defs.specs.declared.edit.Edit.{Edit}
use Rattle.journal_defs.specs.declared.commit.Commit.{Commit}
use Rattle.journal_defs.specs.Edits.{State, IsLegal, after, inverse_all}
use Rattle.journal_defs.specs.Journal.{replay, opening, after_all, AreLegal, IsFirstIllegal}
use Rattle.journal_defs.specs.Weave.{next_commit}
use Rattle.journal_defs.proofs.laws.Journal.{replay_append}
use Rattle.replay.specs.Replayed.{Replayed, GrowsBy, state_of}
use Rattle.rewind.specs.Undone.{IsNumbered, IsInverseOf}
use Rattle.rewind.proofs.laws.Earlier.{IsPast, StandsAt, back_legal, back_leads}

pub legal_at : (S : List Point) (s : State) (es : List Edit) (k : ℕ) (e : Edit) → AreLegal S s es → k < length es → slice_index_or es k e ≡ e → IsLegal S (after_all (take k es) s) e
legal_at S s [] k e legal h at = absurd (omega arith)
legal_at S s (x ∷ xs) zero e legal h at = subst (IsLegal S s) at legal.0
legal_at S s (x ∷ xs) (suc k) e legal h at = legal_at S (after x s) xs k e legal.1 (omega arith) at

-- of legal edits none is the first that isn't legal
pub none_first : (S : List Point) (s : State) (es : List Edit) (k : ℕ) → AreLegal S s es → IsFirstIllegal S s es k → ⊥
none_first S s es k legal first = first.illegal (legal_at S s es k first.edit legal first.within first.at)

-- the commit of a number
pub stands : (J : List Commit) (number : ℕ) (x : Commit) → IsNumbered J number x → StandsAt J (number - 1) x
stands J number x is = record { within = (let has = is.has in omega (arith, has.0, has.1)); is = sym is.at }

-- after it its inverse is legal
pub inverse_then : (S : List Point) (start : List Pair) (J : List Commit) (number : ℕ) (edits : List Edit) → IsPast S start J → IsInverseOf J number edits → AreLegal S (replay start (take number J)) edits
inverse_then S start J number edits past inverse =
    let x = inverse.commit in
    let has = inverse.numbered.has in
    let e : number - 1 + 1 ≡ number = omega (arith, has.0) in
    subst (λ (es : List Edit). AreLegal S (replay start (take number J)) es) (sym inverse.inverse)
    (subst (λ (k : ℕ). AreLegal S (replay start (take k J)) (inverse_all x.edits)) e (back_legal S start J past (number - 1) x (stands J number x inverse.numbered)))

-- and leads back to the state before it
pub inverse_back : (S : List Point) (start : List Pair) (J : List Commit) (number : ℕ) (edits : List Edit) → IsPast S start J → IsInverseOf J number edits
    → after_all edits (replay start (take number J)) ≡ replay start (take (number - 1) J)
inverse_back S start J number edits past inverse =
    let x = inverse.commit in
    let has = inverse.numbered.has in
    let e : number ≡ number - 1 + 1 = omega (arith, has.0) in
    ap (λ (es : List Edit). after_all es (replay start (take number J))) inverse.inverse
    ∙ ap (λ (k : ℕ). after_all (inverse_all x.edits) (replay start (take k J))) e
    ∙ back_leads S start J past (number - 1) x (stands J number x inverse.numbered)

-- the last commit's inverse is legal now
pub last_legal : (S : List Point) (start : List Pair) (J : List Commit) (number : ℕ) (edits : List Edit) → IsPast S start J → IsInverseOf J number edits → number ≡ length J → AreLegal S (replay start J) edits
last_legal S start J number edits past inverse is =
    let h : length J ≤ number = omega arith in
    subst (λ (l : List Commit). AreLegal S (replay start l) edits) (take_all number J h) (inverse_then S start J number edits past inverse)

pub last_never : (c : Replayed) (number k : ℕ) (edits : List Edit) → IsPast c.points c.start c.journal → IsInverseOf c.journal number edits → IsFirstIllegal c.points (state_of c) edits k → number ≡ length c.journal → ⊥
last_never c number k edits past inverse first is = none_first c.points (state_of c) edits k (last_legal c.points c.start c.journal number edits past inverse is) first

-- the undo of the last commit leads back to the state before it
pub last_back : (old new : Replayed) (caller number : ℕ) (edits : List Edit) → IsPast old.points old.start old.journal → IsInverseOf old.journal number edits
    → GrowsBy old new (next_commit old.journal caller edits ∷ []) → number ≡ length old.journal → state_of new ≡ replay old.start (take (number - 1) old.journal)
last_back old new caller number edits past inverse grows is =
    let h : length old.journal ≤ number = omega arith in
    ap (λ (T : List Pair). replay T new.journal) grows.start
    ∙ ap (replay old.start) grows.journal
    ∙ replay_append old.journal (next_commit old.journal caller edits ∷ []) (opening old.start)
    ∙ ap (λ (l : List Commit). after_all edits (replay old.start l)) (sym (take_all number old.journal h))
    ∙ inverse_back old.points old.start old.journal number edits past inverse
