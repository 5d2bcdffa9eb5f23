-- Replay, legality and the last touch of a journal and a further one.
use Rattle.std.proofs.Common.{◌≡◌, ℕ, ◌+◌, ◌≤◌, Bool, true, false, cond, List, [], ◌∷◌, ◌++◌, length, append_assoc, append-nil, arith, sym, ◌∙◌, ap, subst, refl}
use Rattle.std.specs.List.{list_any}
use Rattle.plane.specs.declared.coordinates.Point.{Point}
use Rattle.plane.specs.declared.segment.Pair.{Pair}
use Rattle.star.specs.Stars.{Seen}
use Rattle.star.specs.StarOf.{IsStarOf}
use Rattle.journal_defs.specs.declared.edit.Edit.{Edit}
use Rattle.journal_defs.specs.declared.commit.Commit.{Commit}
use Rattle.journal_defs.specs.Edits.{State, after, touches, AreAlikeAt}
use Rattle.journal_defs.specs.Journal.{after_all, AreLegal, opening, replay_from, replay, AreLegalFrom, HaveSeqsAfter, commit_touches, last_from, last, Spares}
use Rattle.journal_defs.proofs.laws.Members.{untouched, alike_own, alike_on, star_alike}
use Rattle.std.proofs.lemmas.Bool.{or_parts}

pub after_append : (es fs : List Edit) (s : State) → after_all (es ++ fs) s ≡ after_all fs (after_all es s)
after_append [] fs s = refl
after_append (e ∷ es) fs s = after_append es fs (after e s)

pub replay_append : (J L : List Commit) (s : State) → replay_from s (J ++ L) ≡ replay_from (replay_from s J) L
replay_append [] L s = refl
replay_append (c ∷ J) L s = replay_append J L (after_all c.edits s)

-- edits are legal in turn where the first ones are, and the others after them
pub legal_append : (S : List Point) (es fs : List Edit) (s : State) → AreLegal S s es → AreLegal S (after_all es s) fs → AreLegal S s (es ++ fs)
legal_append S [] fs s a b = b
legal_append S (e ∷ es) fs s a b = (a.0, legal_append S es fs (after e s) a.1 b)

pub append_legal : (S : List Point) (es fs : List Edit) (s : State) → AreLegal S s (es ++ fs) → AreLegal S s es × AreLegal S (after_all es s) fs
append_legal S [] fs s h = (tt, h)
append_legal S (e ∷ es) fs s h = let r = append_legal S es fs (after e s) h.1 in ((h.0, r.0), r.1)

-- a prefix of a legal journal is legal, and the rest is legal after it
pub append_legal_from : (S : List Point) (J L : List Commit) (s : State) → AreLegalFrom S s (J ++ L) → AreLegalFrom S s J × AreLegalFrom S (replay_from s J) L
append_legal_from S [] L s h = (tt, h)
append_legal_from S (c ∷ J) L s h = let r = append_legal_from S J L (after_all c.edits s) h.1 in ((h.0, r.0), r.1)

pub legal_from_append : (S : List Point) (J L : List Commit) (s : State) → AreLegalFrom S s J → AreLegalFrom S (replay_from s J) L → AreLegalFrom S s (J ++ L)
legal_from_append S [] L s a b = b
legal_from_append S (c ∷ J) L s a b = (a.0, legal_from_append S J L (after_all c.edits s) a.1 b)

-- and so for the callers' numbers
pub append_seqs : (B J L : List Commit) → HaveSeqsAfter B (J ++ L) → HaveSeqsAfter B J × HaveSeqsAfter (B ++ J) L
append_seqs B [] L h = (tt, rw append-nil h)
append_seqs B (c ∷ J) L h =
    let r = append_seqs (B ++ c ∷ []) J L h.1 in
    ((h.0, r.0), subst (λ (X : List Commit). HaveSeqsAfter X L) (append_assoc B (c ∷ []) J) r.1)

pub seqs_append : (B J L : List Commit) → HaveSeqsAfter B J → HaveSeqsAfter (B ++ J) L → HaveSeqsAfter B (J ++ L)
seqs_append B [] L a b = subst (λ (X : List Commit). HaveSeqsAfter X L) (append-nil B) b
seqs_append B (c ∷ J) L a b = (a.0, seqs_append (B ++ c ∷ []) J L a.1 (subst (λ (X : List Commit). HaveSeqsAfter X L) (sym (append_assoc B (c ∷ []) J)) b))

-- the last touch by a journal and a further one
pub last_from_append : (n best : ℕ) (J L : List Commit) (v : ℕ) → last_from n best (J ++ L) v ≡ last_from (n + length J) (last_from n best J v) L v
last_from_append n best [] L v = ap (λ m. last_from m best L v) (let e : n ≡ n + 0 = omega arith in e)
last_from_append n best (c ∷ J) L v =
    last_from_append (n + 1) (cond (commit_touches c v) (n + 1) best) J L v
    ∙ ap (λ m. last_from m (last_from (n + 1) (cond (commit_touches c v) (n + 1) best) J v) L v) (let e : n + 1 + length J ≡ n + (1 + length J) = omega arith in e ∙ ap (λ m. n + m) (count_one J))
  where
    count_one : (J : List Commit) → 1 + length J ≡ length (c ∷ J)
    count_one J = omega arith

pub last_append : (J L : List Commit) (v : ℕ) → last (J ++ L) v ≡ last_from (length J) (last J v) L v
last_append J L v = last_from_append 0 0 J L v ∙ ap (λ m. last_from m (last J v) L v) (let e : 0 + length J ≡ length J = omega arith in e)

pub last_from_spared : (n best : ℕ) (L : List Commit) (v : ℕ) → Spares L v → last_from n best L v ≡ best
last_from_spared n best [] v h = refl
last_from_spared n best (c ∷ L) v h = ap (λ b. last_from (n + 1) (cond b (n + 1) best) L v) h.0 ∙ last_from_spared (n + 1) best L v h.1

-- commits that spare v leave its last touch
pub last_spared : (J L : List Commit) (v : ℕ) → Spares L v → last (J ++ L) v ≡ last J v
last_spared J L v h = last_append J L v ∙ last_from_spared (length J) (last J v) L v h

pub last_from_most : (n best : ℕ) (J : List Commit) (v : ℕ) → best ≤ n → last_from n best J v ≤ n + length J
last_from_most n best [] v h = omega arith
last_from_most n best (c ∷ J) v h =
    let r = last_from_most (n + 1) (cond (commit_touches c v) (n + 1) best) J v (one (commit_touches c v)) in omega (arith, r)
  where
    one : (b : Bool) → cond b (n + 1) best ≤ n + 1
    one true = omega arith
    one false = omega arith

pub last_most : (J : List Commit) (v : ℕ) → last J v ≤ length J
last_most J v = let r = last_from_most 0 0 J v (omega arith) in omega (arith, r)

-- edits that spare v change nothing at it
pub edits_spared : (es : List Edit) (s : State) (v : ℕ) → list_any (λ e. touches e v) es ≡ false → AreAlikeAt s (after_all es s) v
edits_spared [] s v h = alike_own s v
edits_spared (e ∷ es) s v h =
    let r = or_parts (touches e v) (list_any (λ e. touches e v) es) h in
    alike_on s (after e s) (after_all es (after e s)) v (untouched e s v r.0) (edits_spared es (after e s) v r.1)

pub replay_spared : (L : List Commit) (s : State) (v : ℕ) → Spares L v → AreAlikeAt s (replay_from s L) v
replay_spared [] s v h = alike_own s v
replay_spared (c ∷ L) s v h =
    alike_on s (after_all c.edits s) (replay_from (after_all c.edits s) L) v (edits_spared c.edits s v h.0) (replay_spared L (after_all c.edits s) v h.1)

-- the star of v after a journal is its star after a longer one whose further commits spare v
pub star_spared : (S : List Point) (start : List Pair) (J L : List Commit) (v : ℕ) (a : Seen) → Spares L v
    → IsStarOf S (replay start J).all (replay start J).kept v a → IsStarOf S (replay start (J ++ L)).all (replay start (J ++ L)).kept v a
star_spared S start J L v a h so =
    subst (λ (t : State). IsStarOf S t.all t.kept v a) (sym (replay_append J L (opening start)))
    (star_alike S (replay start J) (replay_from (replay start J) L) v a (replay_spared L (replay start J) v h) so)
