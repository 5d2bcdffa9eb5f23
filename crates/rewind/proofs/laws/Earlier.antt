-- A journal up to one of its commits.
use Rattle.std.proofs.Common.{◌≡◌, ℕ, suc, ◌+◌, ◌<◌, List, [], ◌∷◌, ◌++◌, length, take, drop, get_or, sym, ◌∙◌, ap, subst}
use Rattle.std.proofs.lemmas.List.{take_more, take-append-drop}
use Rattle.std.proofs.lemmas.List.Elements.{All-nil, All-cons, All-append, All-head, All-tail}
use Rattle.std.proofs.Math.Seq.{drop-cons}
use Rattle.plane.specs.declared.coordinates.Point.{Point}
use Rattle.plane.specs.declared.segment.Pair.{Pair}
use Rattle.plane.specs.Accepted.{AreAccepted}
use Rattle.partition_defs.specs.Ascending.{IsAscending}
use Rattle.partition_defs.specs.Triangulation.{IsTriangulation}
use Rattle.journal_defs.specs.declared.edit.Edit.{Edit}
use Rattle.journal_defs.specs.declared.edit.Edit.TheVariants.{Drop, Keep, Flip}
use Rattle.journal_defs.specs.declared.commit.Commit.{Commit}
use Rattle.journal_defs.specs.Edits.{State, IsSound, IsLegal, after, inverse, inverse_all}
use Rattle.journal_defs.specs.Journal.{replay, opening, after_all, AreLegal, AreLegalFrom}
use Rattle.journal_defs.proofs.laws.Start.{sound_legal}
use Rattle.journal_defs.proofs.laws.Journal.{replay_append, append_legal_from}
use Rattle.journal_defs.proofs.laws.Edits.{sound_after, inverses_lead}
use Rattle.replay.specs.Replayed.{Replayed, IsCore}
use Rattle.replay.specs.Applied.{IsWithin, AreWithin}

-- a journal that is legal from a triangulation of accepted points
pub record IsPast (S : List Point) (start : List Pair) (J : List Commit) : Type 0 where
  pub accepted : AreAccepted S
  pub ascending : IsAscending start
  pub triangulation : IsTriangulation S start
  pub legal : AreLegalFrom S (opening start) J

pub past_of : (c : Replayed) → AreAccepted c.points → IsCore c → IsPast c.points c.start c.journal
past_of c accepted core = record { accepted = accepted; ascending = core.ascending; triangulation = core.triangulation; legal = core.legal.edits }

-- the commit that stands in a journal at i
pub record StandsAt (J : List Commit) (i : ℕ) (x : Commit) : Type 0 where
  pub within : i < length J
  pub is : x ≡ get_or J i x

-- the journal with the commit at i in its middle
parted : (J : List Commit) (i : ℕ) (x : Commit) → StandsAt J i x → take i J ++ x ∷ drop (suc i) J ≡ J
parted J i x at =
    ap (λ (y : Commit). take i J ++ y ∷ drop (suc i) J) at.is ∙ ap (λ (l : List Commit). take i J ++ l) (sym (drop-cons J i x at.within)) ∙ take-append-drop i J

module _ (S : List Point) (start : List Pair) (J : List Commit) (past : IsPast S start J) where
  sound_first : (k : ℕ) → AreLegalFrom S (opening start) (take k J) → IsSound S (replay start (take k J))
  sound_first k legal = sound_legal S start (take k J) past.accepted past.ascending past.triangulation legal

  -- the first k commits lead to a sound state
  pub sound_then : (k : ℕ) → IsSound S (replay start (take k J))
  sound_then k =
      sound_first k (append_legal_from S (take k J) (drop k J) (opening start)
      (subst (λ (l : List Commit). AreLegalFrom S (opening start) l) (sym (take-append-drop k J)) past.legal)).0

  -- so do all
  pub sound_now : IsSound S (replay start J)
  sound_now = sound_legal S start J past.accepted past.ascending past.triangulation past.legal

  module _ (i : ℕ) (x : Commit) (at : StandsAt J i x) where
    -- the edits of a commit are legal after those before it
    pub legal_then : AreLegal S (replay start (take i J)) x.edits
    legal_then =
        (append_legal_from S (take i J) (x ∷ drop (suc i) J) (opening start)
        (subst (λ (l : List Commit). AreLegalFrom S (opening start) l) (sym (parted J i x at)) past.legal)).1.0

    -- and lead to the state after it
    pub state_next : replay start (take (i + 1) J) ≡ after_all x.edits (replay start (take i J))
    state_next =
        ap (replay start) (take_more J i x at.within ∙ ap (λ (y : Commit). take i J ++ y ∷ []) (sym at.is)) ∙ replay_append (take i J) (x ∷ []) (opening start)

    -- the inverses of its edits are legal after it, and lead back to the state before it
    pub back_legal : AreLegal S (replay start (take (i + 1) J)) (inverse_all x.edits)
    back_legal =
        subst (λ (s : State). AreLegal S s (inverse_all x.edits)) (sym state_next)
        (inverses_lead S (replay start (take i J)) x.edits (sound_then i) legal_then).0

    pub back_leads : after_all (inverse_all x.edits) (replay start (take (i + 1) J)) ≡ replay start (take i J)
    back_leads =
        ap (after_all (inverse_all x.edits)) state_next
        ∙ (inverses_lead S (replay start (take i J)) x.edits (sound_then i) legal_then).1

-- legal edits are of pairs of the points
edit_within : (S : List Point) (s : State) (e : Edit) → IsSound S s → IsLegal S s e → IsWithin (length S) e
edit_within S s (Drop e) so legal = so.triangulation.within e (so.among e legal.kept)
edit_within S s (Keep e) so legal = so.triangulation.within e legal.there
edit_within S s (Flip e f) so legal = (so.triangulation.within e legal.spare.there, legal.within)

pub edits_within : (S : List Point) (s : State) (es : List Edit) → IsSound S s → AreLegal S s es → AreWithin (length S) es
edits_within S s [] so legal = All-nil (IsWithin (length S))
edits_within S s (e ∷ es) so legal =
    All-cons (IsWithin (length S)) e es (edit_within S s e so legal.0) (edits_within S (after e s) es (sound_after S s e so legal.0) legal.1)

inverse_within : (n : ℕ) (e : Edit) → IsWithin n e → IsWithin n (inverse e)
inverse_within n (Drop e) h = h
inverse_within n (Keep e) h = h
inverse_within n (Flip e f) h = (h.1, h.0)

pub inverses_within : (n : ℕ) (es : List Edit) → AreWithin n es → AreWithin n (inverse_all es)
inverses_within n [] h = All-nil (IsWithin n)
inverses_within n (e ∷ es) h =
    All-append (IsWithin n) (inverse_all es) (inverse e ∷ []) (inverses_within n es (All-tail (IsWithin n) e es h))
    (All-cons (IsWithin n) (inverse e) [] (inverse_within n e (All-head (IsWithin n) e es h)) (All-nil (IsWithin n)))
