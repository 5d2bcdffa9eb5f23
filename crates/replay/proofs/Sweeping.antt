-- The sweep of a core, a pair at a time.
use Rattle.std.proofs.Common.{◌≡◌, ℕ, suc, ◌+◌, ◌<◌, ◌≤◌, inl, inr, List, [], ◌∷◌, ◌++◌, length, take, slice_index_or, cond, nat_eq, arith, sym, ◌∙◌, ap, subst, refl, append_assoc}
use Rattle.std.proofs.lemmas.List.Sums.{sum_by-append}
use Rattle.std.proofs.lemmas.List.{take_more, length-append, length-take, append-nil, take_all}
use Rattle.std.specs.List.{Contains}
use Rattle.plane.specs.declared.coordinates.Point.{Point}
use Rattle.plane.specs.declared.segment.Pair.{Pair}
use Rattle.partition_defs.specs.Sets.{IsMinimal}
use Rattle.journal_defs.specs.declared.commit.Commit.{Commit}
use Rattle.journal_defs.specs.declared.edit.Edit.TheVariants.{Drop}
use Rattle.journal_defs.specs.Edits.{State, after, IsLegalDrop}
use Rattle.journal_defs.specs.Journal.{replay, opening, after_all, made, drops, as_drops, IsSwept}
use Rattle.journal_defs.proofs.laws.Journal.{replay_append}
use Rattle.journal_defs.proofs.laws.Later.{replay_drops, swept_minimal, dropped_count, drops_count}
use Rattle.replay.specs.declared.machine.TheConstants.{MOST_COMMITS}
use Rattle.replay.specs.Replayed.{Replayed, IsCore, GrowsBy, IsAsBefore, state_of}
use Rattle.replay.specs.Swept.{HasSwept, IsSweptOut, IsSweptInPart}
use Rattle.replay.specs.Tried.{HasTried, IsSweeping}

-- one pair more that goes
swept_goes : (S : List Point) (s : State) (pairs done : List Pair) (e : Pair) → IsSwept S s pairs done → IsLegalDrop S (after_all (as_drops done) s) e → IsSwept S s (pairs ++ e ∷ []) (done ++ e ∷ [])
swept_goes S s [] done e is legal = inl (subst (λ d. IsLegalDrop S (after_all (as_drops d) s) e) is legal, ([], ap (λ (d : List Pair). d ++ e ∷ []) is, refl))
swept_goes S s (f ∷ pairs) done e (inl (can, (rest, is, later))) legal =
    inl (can, (rest ++ e ∷ [], ap (λ (d : List Pair). d ++ e ∷ []) is, swept_goes S (after (Drop f) s) pairs rest e later (subst (λ d. IsLegalDrop S (after_all (as_drops d) s) e) is legal)))
swept_goes S s (f ∷ pairs) done e (inr (cannot, later)) legal = inr (cannot, swept_goes S s pairs done e later legal)

-- one pair more that can't go
swept_stays : (S : List Point) (s : State) (pairs done : List Pair) (e : Pair) → IsSwept S s pairs done → ¬ IsLegalDrop S (after_all (as_drops done) s) e → IsSwept S s (pairs ++ e ∷ []) done
swept_stays S s [] done e is not_legal = inr (λ h. not_legal (subst (λ d. IsLegalDrop S (after_all (as_drops d) s) e) (sym is) h), is)
swept_stays S s (f ∷ pairs) done e (inl (can, (rest, is, later))) not_legal =
    inl (can, (rest, is, swept_stays S (after (Drop f) s) pairs rest e later (λ h. not_legal (subst (λ d. IsLegalDrop S (after_all (as_drops d) s) e) (sym is) h))))
swept_stays S s (f ∷ pairs) done e (inr (cannot, later)) not_legal = inr (cannot, swept_stays S s pairs done e later not_legal)

drops_append : (n : ℕ) (d : List Pair) (e : Pair) → drops n (d ++ e ∷ []) ≡ drops n d ++ drops (n + length d) (e ∷ [])
drops_append n [] e = ap (λ m. drops m (e ∷ [])) (omega arith)
drops_append n (f ∷ d) e =
    let c : Commit = record { caller = 0; seq = n + 1; edits = Drop f ∷ [] } in
    ap (λ (J : List Commit). c ∷ J) (drops_append (n + 1) d e ∙ ap (λ m. drops (n + 1) d ++ drops m (e ∷ [])) (omega arith))

made_more : (B : List Commit) (n : ℕ) (f : Pair) → made 0 (B ++ record { caller = 0; seq = n + 1; edits = Drop f ∷ [] } ∷ []) ≡ made 0 B + 1
made_more B n f = sum_by-append (λ (k : Commit). cond (nat_eq k.caller 0) 1 0) B (record { caller = 0; seq = n + 1; edits = Drop f ∷ [] } ∷ [])

made_after : (B : List Commit) (n : ℕ) (d : List Pair) → made 0 (B ++ drops n d) ≡ made 0 B + length d
made_after B n [] = let e : made 0 (B ++ []) ≡ made 0 B = ap (made 0) (append-nil B) in let z : made 0 B ≡ made 0 B + 0 = omega arith in e ∙ z
made_after B n (f ∷ d) =
    let c : Commit = record { caller = 0; seq = n + 1; edits = Drop f ∷ [] } in
    let one : made 0 (B ++ c ∷ []) ≡ made 0 B + 1 = made_more B n f in
    let rest : made 0 ((B ++ c ∷ []) ++ drops (n + 1) d) ≡ made 0 (B ++ c ∷ []) + length d = made_after (B ++ c ∷ []) (n + 1) d in
    let sum : made 0 (B ++ c ∷ []) + length d ≡ made 0 B + suc (length d) = omega (arith, one) in
    ap (made 0) (sym (append_assoc B (c ∷ []) (drops (n + 1) d))) ∙ rest ∙ sum

-- the state after the drops so far
state_after : (old now : Replayed) (done : List Pair) → GrowsBy old now (drops (made 0 old.journal) done) → state_of now ≡ after_all (as_drops done) (state_of old)
state_after old now done grows =
    ap (λ J. replay now.start J) grows.journal ∙ ap (λ T. replay T (old.journal ++ drops (made 0 old.journal) done)) grows.start
    ∙ replay_append old.journal (drops (made 0 old.journal) done) (opening old.start) ∙ replay_drops (made 0 old.journal) done (state_of old)

-- one pair more was tried
tried_more : (old now new : Replayed) (pairs : List Pair) (count : ℕ) (e : Pair) → IsSweeping old now pairs count → IsLegalDrop now.points (state_of now) e → GrowsBy now new (drops (made 0 now.journal) (e ∷ []))
    → IsSweeping old new (pairs ++ e ∷ []) (count + 1)
tried_more old now new pairs count e so legal grows =
    let done = so.dropped in
    let legal_there : IsLegalDrop old.points (after_all (as_drops done) (state_of old)) e =
    subst (λ s. IsLegalDrop old.points s e) (state_after old now done so.swept.grows) (subst (λ S. IsLegalDrop S (state_of now) e) so.swept.grows.points legal) in
    let number : made 0 now.journal ≡ made 0 old.journal + length done = ap (made 0) so.swept.grows.journal ∙ made_after old.journal (made 0 old.journal) done in
    record {
      dropped = done ++ e ∷ [];
      swept = record {
        swept = swept_goes old.points (state_of old) pairs done e so.swept.swept legal_there;
        grows = record {
          points = grows.points ∙ so.swept.grows.points;
          start = grows.start ∙ so.swept.grows.start;
          journal = grows.journal ∙ ap (λ (J : List Commit). J ++ drops (made 0 now.journal) (e ∷ [])) so.swept.grows.journal
              ∙ ap (λ m. (old.journal ++ drops (made 0 old.journal) done) ++ drops m (e ∷ [])) number
              ∙ append_assoc old.journal (drops (made 0 old.journal) done) (drops (made 0 old.journal + length done) (e ∷ []))
              ∙ ap (λ (J : List Commit). old.journal ++ J) (sym (drops_append (made 0 old.journal) done e));
        };
      };
      counted = (let k = length-append done (e ∷ []) in let q = so.counted in omega (arith, k, q));
    }

tried_still : (old now new : Replayed) (pairs : List Pair) (count : ℕ) (e : Pair) → IsSweeping old now pairs count → ¬ IsLegalDrop now.points (state_of now) e → IsAsBefore now new → IsSweeping old new (pairs ++ e ∷ []) count
tried_still old now new pairs count e so not_legal same =
    let done = so.dropped in
    record {
      dropped = done;
      swept = record {
        swept = swept_stays old.points (state_of old) pairs done e so.swept.swept
            (λ h. not_legal (subst (λ S. IsLegalDrop S (state_of now) e) (sym so.swept.grows.points) (subst (λ s. IsLegalDrop old.points s e) (sym (state_after old now done so.swept.grows)) h)));
        grows = record {
          points = same.points ∙ so.swept.grows.points;
          start = same.start ∙ so.swept.grows.start;
          journal = same.journal ∙ so.swept.grows.journal;
        };
      };
      counted = so.counted;
    }

pub tried_on : (old now new : Replayed) (kept : List Pair) (index count k : ℕ) (e : Pair) → index < length kept → e ≡ slice_index_or kept index e → IsSweeping old now (take index kept) count → HasTried now new e k
    → IsSweeping old new (take (index + 1) kept) (count + k)
tried_on old now new kept index count k e h is so tried =
    subst (λ (pairs : List Pair). IsSweeping old new pairs (count + k)) (sym (take_more kept index e h ∙ ap (λ (x : Pair). take index kept ++ x ∷ []) (sym is))) (at tried)
  where
    at : HasTried now new e k → IsSweeping old new (take index kept ++ e ∷ []) (count + k)
    at (inl (legal, grows, one)) = subst (λ n. IsSweeping old new (take index kept ++ e ∷ []) n) (let q = one in omega (arith, q)) (tried_more old now new (take index kept) count e so legal grows)
    at (inr (not_legal, same, none)) = subst (λ n. IsSweeping old new (take index kept ++ e ∷ []) n) (let q = none in omega (arith, q)) (tried_still old now new (take index kept) count e so not_legal same)

-- what is kept is of points
pub kept_within : (old now : Replayed) (kept pairs : List Pair) (index count : ℕ) (e : Pair) → IsCore old → kept ≡ (state_of old).kept → index < length kept → e ≡ slice_index_or kept index e → IsSweeping old now pairs count
    → e.hi < length now.points
kept_within old now kept pairs index count e core is h at so =
    let there : Contains (state_of old).kept e = subst (λ (xs : List Pair). Contains xs e) is (index, h, sym at) in
    subst (λ (S : List Point). e.hi < length S) (sym so.swept.grows.points) (core.sound.triangulation.within e (core.sound.among e there))

-- without memory the sweep stops here
pub sweep_part : (old now new : Replayed) (kept pairs : List Pair) (k count : ℕ) → kept ≡ (state_of old).kept → IsSweeping old now (take k kept) count → IsAsBefore now new → IsSweptInPart old new
sweep_part old now new kept pairs k count is so same = (
  k,
  so.dropped,
  subst (λ (xs : List Pair). HasSwept old new (take k xs) so.dropped) is (record {
    swept = so.swept.swept;
    grows = record {
      points = same.points ∙ so.swept.grows.points;
      start = same.start ∙ so.swept.grows.start;
      journal = same.journal ∙ so.swept.grows.journal;
    };
  }),
)

-- nothing was gone through yet
pub sweep_begins : (old : Replayed) → IsSweeping old old [] 0
sweep_begins old = record {
  dropped = [];
  swept = record { swept = refl; grows = record { points = refl; start = refl; journal = sym (append-nil old.journal) } };
  counted = refl;
}

-- all pairs were gone through
pub sweep_out : (old now : Replayed) (kept : List Pair) (count : ℕ) → kept ≡ (state_of old).kept → IsSweeping old now kept count → IsSweptOut old now count
sweep_out old now kept count is so = (so.dropped, subst (λ (xs : List Pair). HasSwept old now xs so.dropped) is so.swept, so.counted)

pub sweep_minimal : (old now : Replayed) (count : ℕ) → IsCore old → IsSweptOut old now count → IsMinimal now.points (state_of now).kept
sweep_minimal old now count core (done, so, counted) =
    subst (λ S. IsMinimal S (state_of now).kept) (sym so.grows.points)
    (subst (λ (s : State). IsMinimal old.points s.kept) (sym (state_after old now done so.grows)) (swept_minimal old.points (state_of old) done core.sound so.swept))

-- there is room in the journal for one more commit
pub sweep_few : (old now : Replayed) (kept : List Pair) (k count : ℕ) → kept ≡ (state_of old).kept → length old.journal + length (state_of old).kept ≤ MOST_COMMITS → k < length kept → IsSweeping old now (take k kept) count
    → length now.journal < MOST_COMMITS
sweep_few old now kept k count is few h so =
    let a = ap length so.swept.grows.journal in
    let b = length-append old.journal (drops (made 0 old.journal) so.dropped) in
    let d = drops_count (made 0 old.journal) so.dropped in
    let t = dropped_count old.points (state_of old) (take k kept) so.dropped so.swept.swept in
    let u = length-take k kept in
    let w = ap length is in omega (arith, a, b, d, t, u, w, few, h)

-- the loop has come to the end of the list
pub sweep_whole : (old now : Replayed) (kept : List Pair) (index count : ℕ) → kept ≡ (state_of old).kept → length kept ≤ index → IsSweeping old now (take index kept) count → IsSweptOut old now count
sweep_whole old now kept index count is h so = sweep_out old now kept count is (subst (λ (xs : List Pair). IsSweeping old now xs count) (take_all index kept h) so)
