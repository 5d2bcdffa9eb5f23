-- Laws on lists of edits and on whole journals: what holds at a state holds at one that agrees with it at the touched
-- vertices; prefixes; the sweep.
use Rattle.std.proofs.Common.{◌≡◌, ◌≤◌, ℕ, suc, ◌+◌, length, arith, true, List, [], ◌∷◌, ◌++◌, inl, inr, sym, ◌∙◌, ap, subst, refl, cond, nat_eq, Bool}
use Rattle.std.specs.List.{Contains, AllByRecursion, list_any}
use Rattle.std.proofs.lemmas.List.Sums.{sum_by-append}
use Rattle.std.proofs.lemmas.Bool.Decides.{Decides-eqb}
use Rattle.std.proofs.lemmas.List.Elements.{All-from_recursion, recursion_from_All, All-append, All-cons, All-nil}
use Rattle.plane.specs.declared.coordinates.Point.{Point}
use Rattle.plane.specs.declared.segment.Pair.{Pair}
use Rattle.partition_defs.specs.Partition.{Joins, IsConvexPartition}
use Rattle.journal_defs.specs.declared.edit.Edit.{Edit}
use Rattle.journal_defs.specs.declared.edit.Edit.TheVariants.{Drop, Keep, Flip}
use Rattle.journal_defs.specs.declared.commit.Commit.{Commit}
use Rattle.partition_defs.specs.Sets.{without, with_one, IsMinimal}
use Rattle.journal_defs.specs.Edits.{State, after, IsLegal, touches, IsSound, AreAlikeAt}
use Rattle.journal_defs.specs.Journal.{HaveSeqsAfter, after_all, AreLegal, opening, replay_from, replay, AreLegalFrom, made, HasSize, IsLegalJournal, IsSwept, drops, as_drops}
use Rattle.partition_defs.proofs.laws.Has.{Has, has_of}
use Rattle.partition_defs.proofs.laws.Sets.{joins_without, without_joins, joins_with, with_joins, with_joins_own, contains_without}
use Rattle.journal_defs.proofs.laws.Journal.{append_legal_from, legal_from_append, append_seqs, seqs_append}
use Rattle.journal_defs.proofs.laws.Edits.{IsAmong, sound_after, sound_drop, local, drop_stays_illegal}
use Rattle.std.proofs.lemmas.Bool.{or_left, or_right}

-- what two sets have alike at v they have alike there after e was taken out of both, or put into both
out_of_both : (e : Pair) (K L : List Pair) (v w : ℕ) → (Joins K v w → Joins L v w) → Joins (without e K) v w → Joins (without e L) v w
out_of_both e K L v w f h = let r = joins_without e K v w h in without_joins e L v w (f r.0) r.1

into_both : (e : Pair) (K L : List Pair) (v w : ℕ) → (Joins K v w → Joins L v w) → Joins (with_one e K) v w → Joins (with_one e L) v w
into_both e K L v w f h = elim (joins_with e K v w h) [ inl k ↦ with_joins e L v w (f k) | inr ends ↦ with_joins_own e L v w ends ]

-- the same edit keeps two states alike at v
pub alike_after : (e : Edit) (s t : State) (v : ℕ) → AreAlikeAt s t v → AreAlikeAt (after e s) (after e t) v
alike_after (Drop e) s t v a = record {
  all = a.all;
  kept = λ w. (out_of_both e s.kept t.kept v w (a.kept w).0, out_of_both e t.kept s.kept v w (a.kept w).1);
}
alike_after (Keep e) s t v a = record {
  all = a.all;
  kept = λ w. (into_both e s.kept t.kept v w (a.kept w).0, into_both e t.kept s.kept v w (a.kept w).1);
}
alike_after (Flip e f) s t v a = record {
  all = λ w. (
    into_both f (without e s.all) (without e t.all) v w (out_of_both e s.all t.all v w (a.all w).0),
    into_both f (without e t.all) (without e s.all) v w (out_of_both e t.all s.all v w (a.all w).1),
  );
  kept = a.kept;
}

pub alike_after_all : (es : List Edit) (s t : State) (v : ℕ) → AreAlikeAt s t v → AreAlikeAt (after_all es s) (after_all es t) v
alike_after_all [] s t v a = a
alike_after_all (e ∷ es) s t v a = alike_after_all es (after e s) (after e t) v (alike_after e s t v a)

-- the legality of a list of edits is local too
pub local_all : (S : List Point) (s t : State) (es : List Edit) → IsSound S s → IsSound S t
    → ((v : ℕ) → list_any (λ e. touches e v) es ≡ true → AreAlikeAt s t v) → AreLegal S s es → AreLegal S t es
local_all S s t [] so to alike legal = tt
local_all S s t (e ∷ es) so to alike legal =
    let here : IsLegal S t e = local S s t e so to (λ v h. alike v (or_left (touches e v) (list_any (λ e. touches e v) es) h)) legal.0 in (
      here,
      local_all S (after e s) (after e t) es (sound_after S s e so legal.0) (sound_after S t e to here)
          (λ v h. alike_after e s t v (alike v (or_right (touches e v) (list_any (λ e. touches e v) es) h))) legal.1,
    )

-- a prefix of a legal journal is legal
pub legal_prefix : (S : List Point) (start : List Pair) (J L : List Commit) → IsLegalJournal S start (J ++ L) → IsLegalJournal S start J
legal_prefix S start J L legal = record {
  sizes = All-from_recursion HasSize J (first J L (recursion_from_All HasSize (J ++ L) legal.sizes));
  edits = (append_legal_from S J L (opening start) legal.edits).0;
  seqs = (append_seqs [] J L legal.seqs).0;
}
  where
    first : (J L : List Commit) → AllByRecursion HasSize (J ++ L) → AllByRecursion HasSize J
    first [] L h = tt
    first (c ∷ J) L h = (h.0, first J L h.1)

-- the journal with one more commit is legal exactly where the commit is, after it and with its caller's next number
pub legal_more : (S : List Point) (start : List Pair) (J : List Commit) (c : Commit) → IsLegalJournal S start J → HasSize c → AreLegal S (replay start J) c.edits → c.seq ≡ made c.caller J + 1 → IsLegalJournal S start (J ++ c ∷ [])
legal_more S start J c legal size edits seq = record {
  sizes = All-append HasSize J (c ∷ []) legal.sizes (All-cons HasSize c [] size (All-nil HasSize));
  edits = legal_from_append S J (c ∷ []) (opening start) legal.edits (edits, tt);
  seqs = seqs_append [] J (c ∷ []) legal.seqs (seq, tt);
}

pub more_legal : (S : List Point) (start : List Pair) (J : List Commit) (c : Commit) → IsLegalJournal S start (J ++ c ∷ []) → AreLegal S (replay start J) c.edits × (c.seq ≡ made c.caller J + 1)
more_legal S start J c legal = ((append_legal_from S J (c ∷ []) (opening start) legal.edits).1.0, (append_seqs [] J (c ∷ []) legal.seqs).1.0)

pub kept_falls : (dropped : List Pair) (s : State) → IsAmong (after_all (as_drops dropped) s).kept s.kept
kept_falls [] s e h = h
kept_falls (d ∷ dropped) s e h = (contains_without d e s.kept (kept_falls dropped (after (Drop d) s) e h)).0

-- what the sweep went through and left can't go afterwards
pub swept_stays : (S : List Point) (s : State) (pairs dropped : List Pair) → IsSound S s → IsSwept S s pairs dropped
    → (e : Pair) → Has e pairs → Contains (after_all (as_drops dropped) s).kept e → ¬ IsConvexPartition S (without e (after_all (as_drops dropped) s).kept)
swept_stays S s [] dropped so swept e here = absurd here
swept_stays S s (x ∷ pairs) dropped so (inl (legal, (rest, is, swept))) e here =
    subst (λ (d : List Pair). Contains (after_all (as_drops d) s).kept e → ¬ IsConvexPartition S (without e (after_all (as_drops d) s).kept)) (sym is)
    (λ there. elim here [
      | inl same ↦ absurd ((contains_without x e s.kept (kept_falls rest (after (Drop x) s) e there)).1 (sym same))
      | inr k ↦ swept_stays S (after (Drop x) s) pairs rest (sound_drop S s x so legal) swept e k there
    ])
swept_stays S s (x ∷ pairs) dropped so (inr (illegal, swept)) e here = λ there. elim here [
  | inl same ↦ λ part. illegal (record {
    kept = subst (λ (z : Pair). Contains s.kept z) (sym same) (kept_falls dropped s e there);
    partition = subst (λ (z : Pair). IsConvexPartition S (without z s.kept)) (sym same)
        (drop_stays_illegal S s.kept (after_all (as_drops dropped) s).kept e so.partition (kept_falls dropped s) part);
  })
  | inr k ↦ swept_stays S s pairs dropped so swept e k there
]

-- after a sweep through the kept pairs none can go
pub swept_minimal : (S : List Point) (s : State) (dropped : List Pair) → IsSound S s → IsSwept S s s.kept dropped → IsMinimal S (after_all (as_drops dropped) s).kept
swept_minimal S s dropped so swept e there = swept_stays S s s.kept dropped so swept e (has_of s.kept e (kept_falls dropped s e there)) there

-- the sweep's commits replay to it
pub replay_drops : (n : ℕ) (dropped : List Pair) (s : State) → replay_from s (drops n dropped) ≡ after_all (as_drops dropped) s
replay_drops n [] s = refl
replay_drops n (e ∷ dropped) s = replay_drops (n + 1) dropped (after (Drop e) s)

pub legal_drops : (S : List Point) (n : ℕ) (s : State) (pairs dropped : List Pair) → IsSwept S s pairs dropped → AreLegalFrom S s (drops n dropped)
legal_drops S n s [] dropped swept = subst (λ (d : List Pair). AreLegalFrom S s (drops n d)) (sym swept) tt
legal_drops S n s (x ∷ pairs) dropped (inl (legal, (rest, is, swept))) =
    subst (λ (d : List Pair). AreLegalFrom S s (drops n d)) (sym is) ((legal, tt), legal_drops S (n + 1) (after (Drop x) s) pairs rest swept)
legal_drops S n s (x ∷ pairs) dropped (inr (illegal, swept)) = legal_drops S n s pairs dropped swept

-- the sweep drops one list of pairs
pub one_sweep : (S : List Point) (s : State) (pairs d f : List Pair) → IsSwept S s pairs d → IsSwept S s pairs f → d ≡ f
one_sweep S s [] d f a b = a ∙ sym b
one_sweep S s (x ∷ pairs) d f (inl (legal, (rest, is, swept))) (inl (also, (others, same, gone))) =
    is ∙ ap (λ (es : List Pair). x ∷ es) (one_sweep S (after (Drop x) s) pairs rest others swept gone) ∙ sym same
one_sweep S s (x ∷ pairs) d f (inl (legal, rest)) (inr (illegal, swept)) = absurd (illegal legal)
one_sweep S s (x ∷ pairs) d f (inr (illegal, swept)) (inl (legal, rest)) = absurd (illegal legal)
one_sweep S s (x ∷ pairs) d f (inr (illegal, swept)) (inr (also, gone)) = one_sweep S s pairs d f swept gone

-- one more commit of caller 0
made_more : (B : List Commit) (c : Commit) → c.caller ≡ 0 → made 0 (B ++ c ∷ []) ≡ made 0 B + 1
made_more B c own =
    sum_by-append (λ (k : Commit). cond (nat_eq k.caller 0) 1 0) B (c ∷ [])
    ∙ ap (λ (m : ℕ). made 0 B + m) (let e : nat_eq c.caller 0 ≡ true = (Decides-eqb c.caller 0).1 own in ap (λ (b : Bool). 0 + cond b 1 0) e)

-- the sweep's commits carry caller 0's next numbers
pub seqs_drops : (n : ℕ) (dropped : List Pair) (B : List Commit) → n ≡ made 0 B → HaveSeqsAfter B (drops n dropped)
seqs_drops n [] B is = tt
seqs_drops n (e ∷ dropped) B is =
    let c : Commit = record { caller = 0; seq = n + 1; edits = Drop e ∷ [] } in
    (ap (λ (m : ℕ). m + 1) is, seqs_drops (n + 1) dropped (B ++ c ∷ []) (ap (λ (m : ℕ). m + 1) is ∙ sym (made_more B c refl)))

-- a sweep drops no more pairs than it goes through
pub dropped_count : (S : List Point) (s : State) (pairs dropped : List Pair) → IsSwept S s pairs dropped → length dropped ≤ length pairs
dropped_count S s [] dropped swept = subst (λ (d : List Pair). length d ≤ 0) (sym swept) (omega arith)
dropped_count S s (x ∷ pairs) dropped (inl (legal, (rest, is, swept))) =
    let few : length rest ≤ length pairs = dropped_count S (after (Drop x) s) pairs rest swept in
    subst (λ (d : List Pair). length d ≤ suc (length pairs)) (sym is) (omega (arith, few))
dropped_count S s (x ∷ pairs) dropped (inr (illegal, swept)) =
    let few : length dropped ≤ length pairs = dropped_count S s pairs dropped swept in omega (arith, few)

-- a sweep makes one commit for each pair that it drops
pub drops_count : (n : ℕ) (dropped : List Pair) → length (drops n dropped) ≡ length dropped
drops_count n [] = refl
drops_count n (e ∷ dropped) = ap suc (drops_count (n + 1) dropped)
