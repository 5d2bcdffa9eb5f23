-- Every run keeps a legal history, and a place stays its owner's until the owner gives it back.
use Rattle.std.proofs.Common.{◌≡◌, ◌≢◌, ℕ, true, nat_eq, List, [], ◌∷◌, ◌++◌, sym, ◌∙◌, ap, refl, Some, None}
use Rattle.std.specs.List.{list_any}
use Rattle.std.proofs.lemmas.Bool.{cond_both}
use Rattle.std.proofs.lemmas.Bool.Decides.{Decides-eqb}
use Rattle.std.proofs.lemmas.List.Elements.{All-nil}
use Rattle.plane.specs.declared.coordinates.Point.{Point}
use Rattle.plane.specs.declared.segment.Pair.{Pair}
use Rattle.journal_defs.specs.declared.edit.Edit.{Edit}
use Rattle.journal_defs.specs.Edits.{touches}
use Rattle.journal_defs.specs.Journal.{HasSize, IsLegalJournal}
use Rattle.journal_defs.specs.Weave.{Event, Weave, next_commit, IsPossible, step, IsRun, steps, first_weave}
use Rattle.journal_defs.specs.Weave.Event.{Take, Miss, Append, Back}
use Rattle.journal_defs.proofs.laws.Later.{legal_more}

pub legal_step : (S : List Point) (start : List Pair) (n : ℕ) (w : Weave) (e : Event) → IsLegalJournal S start w.journal → IsPossible S start n w e → IsLegalJournal S start (step w e).journal
legal_step S start n w (Take c v) legal may = legal
legal_step S start n w (Miss c v) legal may = legal
legal_step S start n w (Append c edits) legal may = legal_more S start w.journal (next_commit w.journal c edits) legal (may.some, may.few) may.legal refl
legal_step S start n w (Back c v) legal may = legal

-- the history stays legal
pub legal_run : (S : List Point) (start : List Pair) (n : ℕ) (w : Weave) (es : List Event) → IsLegalJournal S start w.journal → IsRun S start n w es → IsLegalJournal S start (steps w es).journal
legal_run S start n w [] legal run = legal
legal_run S start n w (e ∷ es) legal run = legal_run S start n (step w e) es (legal_step S start n w e legal run.0) run.1

-- a caller doesn't give a place back
abbrev pub KeepsPlace : ℕ → ℕ → List Event → Type 0
KeepsPlace c v [] = Unit {0}
KeepsPlace c v (e ∷ es) = (e ≢ Back c v) × KeepsPlace c v es

owner_kept : (S : List Point) (start : List Pair) (n : ℕ) (w : Weave) (e : Event) (c v : ℕ) → w.owner v ≡ Some c → IsPossible S start n w e → e ≢ Back c v → (step w e).owner v ≡ Some c
owner_kept S start n w (Take d u) c v own may ne =
    cond_both (nat_eq v u) (Some d) (w.owner v) (λ o. o ≡ Some c)
    (λ t. (let same : v ≡ u = (Decides-eqb v u).0 t in let free : w.owner v ≡ None = ap w.owner same ∙ may in cc))
    (λ t. own)
owner_kept S start n w (Miss d u) c v own may ne = own
owner_kept S start n w (Append d edits) c v own may ne = own
owner_kept S start n w (Back d u) c v own may ne =
    cond_both (nat_eq v u) None (w.owner v) (λ o. o ≡ Some c)
    (λ t. absurd (let same : v ≡ u = (Decides-eqb v u).0 t in
    let other : w.owner v ≡ Some d = ap w.owner same ∙ may in
    let one : d ≡ c = cc in
    ne (ap (λ (x : ℕ). Back x u) one ∙ ap (λ (y : ℕ). Back c y) (sym same))))
    (λ t. own)

-- a place stays its owner's until the owner gives it back
pub owner_stays : (S : List Point) (start : List Pair) (n : ℕ) (w : Weave) (es : List Event) (c v : ℕ) → w.owner v ≡ Some c → IsRun S start n w es → KeepsPlace c v es → (steps w es).owner v ≡ Some c
owner_stays S start n w [] c v own run keeps = own
owner_stays S start n w (e ∷ es) c v own run keeps = owner_stays S start n (step w e) es c v (owner_kept S start n w e c v own run.0 keeps.0) run.1 keeps.1

run_on : (S : List Point) (start : List Pair) (n : ℕ) (w : Weave) (es fs : List Event) → IsRun S start n w (es ++ fs) → IsRun S start n w es × IsRun S start n (steps w es) fs
run_on S start n w [] fs run = (tt, run)
run_on S start n w (e ∷ es) fs run = let r = run_on S start n (step w e) es fs run.1 in ((run.0, r.0), r.1)

-- meanwhile no other caller's Append touches the place
pub others_spare : (S : List Point) (start : List Pair) (n : ℕ) (w : Weave) (es fs : List Event) (c d v : ℕ) (edits : List Edit) → w.owner v ≡ Some c → d ≢ c
    → IsRun S start n w (es ++ Append d edits ∷ fs) → KeepsPlace c v es → ¬ (list_any (λ e. touches e v) edits ≡ true)
others_spare S start n w es fs c d v edits own ne run keeps touched =
    let r = run_on S start n w es (Append d edits ∷ fs) run in
    let may = r.1.0 in
    let theirs : (steps w es).owner v ≡ Some d = may.vertices v touched in
    let mine : (steps w es).owner v ≡ Some c = owner_stays S start n w es c v own r.0 keeps in
    ne (let one : d ≡ c = cc in one)

-- every run from the first state keeps a legal history
pub legal_weave : (S : List Point) (start : List Pair) (n : ℕ) (es : List Event) → IsRun S start n first_weave es → IsLegalJournal S start (steps first_weave es).journal
legal_weave S start n es run = legal_run S start n first_weave es (record { sizes = All-nil HasSize; edits = tt; seqs = tt }) run
