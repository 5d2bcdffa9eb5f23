-- The first pair that a sweep drops is the least that can go.
use Rattle.std.proofs.Common.{◌≡◌, ◌≢◌, ℕ, ◌+◌, ◌<◌, List, [], ◌∷◌, ◌++◌, length, get_or, length-append, sym, ◌∙◌, ap, subst, refl, inl, inr, arith}
use Rattle.plane.specs.declared.coordinates.Point.{Point}
use Rattle.plane.specs.declared.segment.Pair.{Pair}
use Rattle.partition_defs.specs.Ascending.{ComesFirst, IsAscending}
use Rattle.partition_defs.specs.Sets.{IsMinimal}
use Rattle.partition_defs.proofs.laws.Has.{Has, has_of, contains_of, Rises, rises_of, never_both}
use Rattle.journal_defs.specs.declared.edit.Edit.{Edit}
use Rattle.journal_defs.specs.declared.edit.Edit.TheVariants.{Drop}
use Rattle.journal_defs.specs.declared.commit.Commit.{Commit}
use Rattle.journal_defs.specs.Edits.{State, IsLegalDrop}
use Rattle.journal_defs.specs.Journal.{IsSwept, drops, made}
use Rattle.replay.specs.Replayed.{Replayed, state_of}
use Rattle.replay.specs.Swept.{IsSweptOut}
use Rattle.report_defs.specs.Verdicts.{IsFirstToGo}

-- where nothing is dropped, nothing can go
swept_none : (S : List Point) (s : State) (pairs dropped : List Pair) → dropped ≡ [] → IsSwept S s pairs dropped → (e : Pair) → Has e pairs → ¬ IsLegalDrop S s e
swept_none S s [] dropped none swept e h = absurd h
swept_none S s (x ∷ pairs) dropped none (inl (legal, (rest, is, more))) e h = λ _. absurd (let twice : x ∷ rest ≡ [] = sym is ∙ none in cc)
swept_none S s (x ∷ pairs) dropped none (inr (illegal, more)) e (inl same) = subst (λ z. ¬ IsLegalDrop S s z) same illegal
swept_none S s (x ∷ pairs) dropped none (inr (illegal, more)) e (inr h) = swept_none S s pairs dropped none more e h

-- the first that is dropped can go, and no earlier one
record IsFirstDropped (S : List Point) (s : State) (pairs : List Pair) (d : Pair) : Type 0 where
  there : Has d pairs
  legal : IsLegalDrop S s d
  before : (f : Pair) → Has f pairs → ComesFirst f d → ¬ IsLegalDrop S s f

swept_first : (S : List Point) (s : State) (pairs dropped : List Pair) (d : Pair) (rest : List Pair) → dropped ≡ d ∷ rest → Rises pairs → IsSwept S s pairs dropped → IsFirstDropped S s pairs d
swept_first S s [] dropped d rest is rises swept = absurd (let twice : [] ≡ d ∷ rest = sym swept ∙ is in cc)
swept_first S s (x ∷ pairs) dropped d rest is rises (inl (legal, (more, also, swept))) =
    let same : x ≡ d = heads x d more rest (sym also ∙ is) in
    subst (λ z. IsFirstDropped S s (x ∷ pairs) z) same (record {
      there = inl refl;
      legal = legal;
      before = λ f h first. elim h [
        | inl e ↦ absurd (never_both x x (subst (λ z. ComesFirst z x) (sym e) first) (subst (λ z. ComesFirst z x) (sym e) first))
        | inr k ↦ absurd (never_both f x first (rises.0 f k))
      ];
    })
  where
    heads : (x d : Pair) (more rest : List Pair) → x ∷ more ≡ d ∷ rest → x ≡ d
    heads x d more rest e = cc
swept_first S s (x ∷ pairs) dropped d rest is rises (inr (illegal, swept)) =
    let so = swept_first S s pairs dropped d rest is rises.1 swept in
    record {
      there = inr so.there;
      legal = so.legal;
      before = λ f h first. elim h [ inl e ↦ subst (λ z. ¬ IsLegalDrop S s z) e illegal | inr k ↦ so.before f k first ];
    }

pub none_to_go : (old new : Replayed) (count : ℕ) → IsSweptOut old new count → count ≡ 0 → IsMinimal old.points (state_of old).kept
none_to_go old new count (dropped, so, is) zero_count e here part =
    swept_none old.points (state_of old) (state_of old).kept dropped (nothing dropped (sym is ∙ zero_count)) so.swept e (has_of (state_of old).kept e here) (record { kept = here; partition = part })
  where
    nothing : (L : List Pair) → length L ≡ 0 → L ≡ []
    nothing [] e = refl
    nothing (x ∷ xs) e = absurd (omega arith)

-- what a sweep that dropped something shows: the pair, and that the journal's next commit drops it
pub record HasGone (old new : Replayed) : Type 0 where
  pub gone : Pair
  pub first : IsFirstToGo old.points (state_of old).kept gone
  pub longer : length old.journal < length new.journal
  pub commit : (x : Commit) → (get_or new.journal (length old.journal) x).edits ≡ Drop gone ∷ []

at_end : (J more : List Commit) (c x : Commit) → get_or (J ++ c ∷ more) (length J) x ≡ c
at_end [] more c x = refl
at_end (y ∷ J) more c x = at_end J more c x

pub some_gone : (old new : Replayed) (count : ℕ) → IsAscending (state_of old).kept → IsSweptOut old new count → count ≢ 0 → HasGone old new
some_gone old new count ascends ([], so, is) some = absurd (some is)
some_gone old new count ascends (d ∷ rest, so, is) some =
    let K = (state_of old).kept in
    let first = swept_first old.points (state_of old) K (d ∷ rest) d rest refl (rises_of K ascends) so.swept in
    let m = made 0 old.journal in
    let grown : new.journal ≡ old.journal ++ drops m (d ∷ rest) = so.grows.journal in
    record {
      gone = d;
      first = record {
        there = contains_of K d first.there;
        can = first.legal.partition;
        first = λ f h comes part. first.before f (has_of K f h) comes (record { kept = h; partition = part });
      };
      longer = omega (arith, ap (λ (J : List Commit). length J) grown, length-append old.journal (drops m (d ∷ rest)));
      commit = λ x. ap (λ (J : List Commit). (get_or J (length old.journal) x).edits) grown
          ∙ ap (λ (c : Commit). c.edits) (at_end old.journal (drops (m + 1) rest) (record { caller = 0; seq = m + 1; edits = Drop d ∷ [] }) x);
    }

-- the edit that is read there
pub read_drop : (old new : Replayed) (gone : HasGone old new) (before J : List Commit) (x : Commit) (es : List Edit) (e : Edit) → before ≡ old.journal → J ≡ new.journal
    → es ≡ (get_or J (length before) x).edits → e ≡ get_or es 0 e → e ≡ Drop gone.gone
read_drop old new gone before J x es e eb ej ee is =
    let whole : es ≡ Drop gone.gone ∷ [] = ee ∙ ap (λ (B : List Commit). (get_or J (length B) x).edits) eb ∙ ap (λ (L : List Commit). (get_or L (length old.journal) x).edits) ej ∙ gone.commit x in
    is ∙ ap (λ (L : List Edit). get_or L 0 e) whole
