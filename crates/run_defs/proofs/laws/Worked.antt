-- A run with edit workers is a solved instance, and one worker alone makes one journal.
use Rattle.std.proofs.Common.{◌≡◌, ℕ, zero, suc, ◌+◌, ◌*◌, ◌≤◌, Bool, true, false, cond, nat_eq, List, [], ◌∷◌, ◌++◌, length, length-append, sym, ◌∙◌, refl, ap, ap₂, subst, arith}
use Rattle.std.specs.List.{All, AllByRecursion}
use Rattle.std.proofs.lemmas.Bool.Decides.{Decides-eqb}
use Rattle.std.proofs.lemmas.List.Sums.{sum_by-append, sum_by-cons}
use Rattle.std.proofs.lemmas.List.Elements.{All-from_recursion, recursion_from_All, All-append}
use Rattle.plane.specs.declared.coordinates.Point.{Point}
use Rattle.plane.specs.declared.segment.Pair.{Pair}
use Rattle.plane.specs.Accepted.{AreAccepted}
use Rattle.partition_defs.specs.Ascending.{IsAscending}
use Rattle.partition_defs.specs.Sets.{IsMinimal}
use Rattle.partition_defs.specs.Sweep.{AreSweepPairs}
use Rattle.partition_defs.specs.Triangulation.{IsTriangulation}
use Rattle.cost_defs.specs.Costs.{Costed}
use Rattle.journal_defs.specs.declared.edit.Edit.TheVariants.{Drop}
use Rattle.journal_defs.specs.declared.commit.Commit.{Commit}
use Rattle.journal_defs.specs.Edits.{State, IsSound}
use Rattle.journal_defs.specs.Journal.{opening, replay, made, IsLegalJournal, IsSwept, drops}
use Rattle.journal_defs.proofs.laws.Journal.{replay_append}
use Rattle.journal_defs.proofs.laws.Later.{legal_prefix, swept_minimal, replay_drops, one_sweep, dropped_count, drops_count}
use Rattle.journal_defs.proofs.laws.Start.{sound_legal}
use Rattle.price_defs.specs.declared.row.Certificate.{Certificate}
use Rattle.price_defs.specs.declared.row.TheConstants.{MOST_DIVISOR}
use Rattle.price_defs.specs.Limits.{AreLight}
use Rattle.search_defs.specs.Best.{IsBest}
use Rattle.round_defs.specs.Rounds.{IsSearched}
use Rattle.round_defs.proofs.laws.Once.{one_rounds}
use Rattle.search_defs.specs.Words.{round_words}
use Rattle.solve_defs.specs.Solved.{IsNoDearer, IsSweeps, IsManned, IsSolved}
use Rattle.solve_defs.proofs.laws.Bests.{IsAboveFloor, best_above}
use Rattle.run_defs.specs.WorkedRun.{IsWorkers, IsWorkedJournal}
use Rattle.run_defs.proofs.laws.Fewer.{kept_fewer}

-- whose commits count for caller 0
abbrev own : Commit → ℕ
own c = cond (nat_eq c.caller 0) 1 0

drops_made : (n : ℕ) (dropped : List Pair) → made 0 (drops n dropped) ≡ length dropped
drops_made n [] = refl
drops_made n (e ∷ dropped) =
    let c : Commit = record { caller = 0; seq = n + 1; edits = Drop e ∷ [] } in
    let rest : made 0 (drops (n + 1) dropped) ≡ length dropped = drops_made (n + 1) dropped in
    let all : made 0 (drops n (e ∷ dropped)) ≡ 1 + made 0 (drops (n + 1) dropped) = sum_by-cons own c (drops (n + 1) dropped) in
    omega (arith, all, rest)

-- what holds of each Drop of caller 0 holds of all
each_drop : (P : Commit → Type 0) → ((n : ℕ) (e : Pair) → P (record { caller = 0; seq = n + 1; edits = Drop e ∷ [] })) → (n : ℕ) (dropped : List Pair) → AllByRecursion P (drops n dropped)
each_drop P holds n [] = tt
each_drop P holds n (e ∷ dropped) = (holds n e, each_drop P holds (n + 1) dropped)

-- workers' commits are none of caller 0
none_made : (D : List Costed) (E : ℕ) (work : List Commit) → AllByRecursion (IsWorkers D E) work → made 0 work ≡ 0
none_made D E [] workers = refl
none_made D E (c ∷ work) workers =
    let rest : made 0 work ≡ 0 = none_made D E work workers.1 in
    let all : made 0 (c ∷ work) ≡ own c + made 0 work = sum_by-cons own c work in
    all ∙ ap₂ (λ (a b : ℕ). a + b) (not_own c workers.0.0) rest
  where
    not_own : (c : Commit) → 1 ≤ c.caller → own c ≡ 0
    not_own c one = other (nat_eq c.caller 0) refl
      where
        other : (b : Bool) → nat_eq c.caller 0 ≡ b → own c ≡ 0
        other true is = absurd (let e : c.caller ≡ 0 = (Decides-eqb c.caller 0).0 is in omega (arith, e, one))
        other false is = ap (λ (b : Bool). cond b 1 0) is

-- what holds of the sweeps' commits and of the workers' holds of all
parts : (P : Commit → Type 0) (n m : ℕ) (first last : List Pair) (work : List Commit) → ((n : ℕ) (e : Pair) → P (record { caller = 0; seq = n + 1; edits = Drop e ∷ [] }))
    → All P work → All P ((drops n first ++ work) ++ drops m last)
parts P n m first last work holds workers =
    All-append P (drops n first ++ work) (drops m last)
    (All-append P (drops n first) work (All-from_recursion P (drops n first) (each_drop P holds n first)) workers)
    (All-from_recursion P (drops m last) (each_drop P holds m last))

workers_are : (P Q : Commit → Type 0) → ((c : Commit) → P c → Q c) → (work : List Commit) → All P work → All Q work
workers_are P Q f work all = All-from_recursion Q work (go work (recursion_from_All P work all))
  where
    go : (work : List Commit) → AllByRecursion P work → AllByRecursion Q work
    go [] all = tt
    go (c ∷ work) all = (f c all.0, go work all.1)

manned : (D : List Costed) (E m : ℕ) (first last : List Pair) (work : List Commit) → All (IsWorkers D E) work → length first ≤ 15000 → length last ≤ 15000 → length work ≤ 64000
    → IsManned E ((drops 0 first ++ work) ++ drops m last)
manned D E m first last work workers few fewer least = record {
  callers = parts (λ c. c.caller ≤ E) 0 m first last work (λ n e. omega arith) (workers_are (IsWorkers D E) (λ c. c.caller ≤ E) (λ c h. h.1) work workers);
  sweeps = parts IsSweeps 0 m first last work (λ n e is. (e, refl))
      (workers_are (IsWorkers D E) IsSweeps (λ c h is. absurd (let one : 1 ≤ c.caller = h.0 in omega (arith, is, one))) work workers);
  swept = omega (arith, total, few, fewer);
  worked = omega (arith, total, all, least);
}
  where
    total : made 0 ((drops 0 first ++ work) ++ drops m last) ≡ length first + length last
    total =
        let a : made 0 ((drops 0 first ++ work) ++ drops m last) ≡ made 0 (drops 0 first ++ work) + made 0 (drops m last) = sum_by-append own (drops 0 first ++ work) (drops m last) in
        let b : made 0 (drops 0 first ++ work) ≡ made 0 (drops 0 first) + made 0 work = sum_by-append own (drops 0 first) work in
        let c : made 0 (drops 0 first) ≡ length first = drops_made 0 first in
        let d : made 0 (drops m last) ≡ length last = drops_made m last in
        let e : made 0 work ≡ 0 = none_made D E work (recursion_from_All (IsWorkers D E) work workers) in
        omega (arith, a, b, c, d, e)

    all : length ((drops 0 first ++ work) ++ drops m last) ≡ length first + length work + length last
    all =
        let a : length ((drops 0 first ++ work) ++ drops m last) ≡ length (drops 0 first ++ work) + length (drops m last) = length-append (drops 0 first ++ work) (drops m last) in
        let b : length (drops 0 first ++ work) ≡ length (drops 0 first) + length work = length-append (drops 0 first) work in
        let c : length (drops 0 first) ≡ length first = drops_count 0 first in
        let d : length (drops m last) ≡ length last = drops_count m last in
        omega (arith, a, b, c, d)

-- at most four commits for each round of 16 workers
pub within : (E rounds n : ℕ) → E ≤ 16 → rounds ≤ 1000 → n ≤ 4 * E * rounds → n ≤ 64000
within E rounds n e r few =
    let a : 4 * E * rounds ≤ 64 * rounds = times (4 * E) 64 rounds (omega (arith, e)) in
    omega (arith, a, r, few)
  where
    times : (a b c : ℕ) → a ≤ b → a * c ≤ b * c
    times a b zero le = omega arith
    times a b (suc c) le = let m : a * c ≤ b * c = times a b c le in omega (arith, m, le)

-- the run in its parts
solved : (S : List Point) (D : List Costed) (E workers rounds seed : ℕ) (start first last : List Pair) (work : List Commit) (C : Certificate) → AreAccepted S
    → IsAscending start → IsTriangulation S start → AreSweepPairs S start → length start ≤ 15000 → E ≤ 16 → rounds ≤ 1000
    → IsSwept S (opening start) start first → All (IsWorkers D E) work → length work ≤ 4 * E * rounds
    → IsSwept S (replay start (drops 0 first ++ work)) (replay start (drops 0 first ++ work)).kept last
    → IsLegalJournal S start ((drops 0 first ++ work) ++ drops (made 0 (drops 0 first ++ work)) last)
    → IsBest S D workers rounds seed C → C.q ≤ MOST_DIVISOR → AreLight C.rows
    → IsSolved S D E start ((drops 0 first ++ work) ++ drops (made 0 (drops 0 first ++ work)) last)
    (replay start ((drops 0 first ++ work) ++ drops (made 0 (drops 0 first ++ work)) last)).kept C
solved S D E workers rounds seed start first last work C accepted rises tri sweep few low lower swept worked least again legal best divisor light =
    let mid : List Commit = drops 0 first ++ work in
    let m : ℕ = made 0 mid in
    let above : IsAboveFloor S D C = best_above S D workers rounds seed C accepted best in
    let before : IsLegalJournal S start mid = legal_prefix S start mid (drops m last) legal in
    let so : IsSound S (replay start mid) = sound_legal S start mid accepted rises tri before.edits in
    let kept : length (replay start mid).kept ≤ length start = kept_fewer S start mid accepted rises tri before in
    let one : length first ≤ length start = dropped_count S (opening start) start first swept in
    let two : length last ≤ length (replay start mid).kept = dropped_count S (replay start mid) (replay start mid).kept last again in
    record {
      ascending = rises;
      triangulation = tri;
      sweep = sweep;
      journal = legal;
      manned = manned D E m first last work worked (omega (arith, one, few)) (omega (arith, two, kept, few)) (within E rounds (length work) low lower least);
      dearer = parts (λ c. IsNoDearer D c.edits) 0 m first last work (λ n e. omega arith) (workers_are (IsWorkers D E) (λ c. IsNoDearer D c.edits) (λ c h. h.2) work worked);
      result = refl;
      minimal = subst (λ (s : State). IsMinimal S s.kept)
          (sym (replay_append mid (drops m last) (opening start) ∙ replay_drops m last (replay start mid)))
          (swept_minimal S (replay start mid) last so again);
      valid = above.0.valid;
      tight = above.0.tight;
      floor = above.1;
      divisor = divisor;
      light = light;
    }

pub worked_solved : (S : List Point) (D : List Costed) (E workers rounds seed : ℕ) (start : List Pair) (J : List Commit) (C : Certificate) → AreAccepted S
    → IsAscending start → IsTriangulation S start → AreSweepPairs S start → length start ≤ 15000 → E ≤ 16 → rounds ≤ 1000
    → IsWorkedJournal S D E rounds seed start J → IsBest S D workers rounds seed C → C.q ≤ MOST_DIVISOR → AreLight C.rows
    → IsSolved S D E start J (replay start J).kept C
worked_solved S D E workers rounds seed start J C accepted rises tri sweep few low lower w best divisor light =
    subst (λ (M : List Commit). IsSolved S D E start M (replay start M).kept C) (sym is)
    (solved S D E workers rounds seed start w.sweep.0 w.last.0 w.work C accepted rises tri sweep few low lower w.sweep.1 w.workers w.few again
    (subst (λ (M : List Commit). IsLegalJournal S start M) is w.legal) best divisor light)
  where
    first : w.swept ++ w.work ≡ drops 0 w.sweep.0 ++ w.work
    first = ap (λ (M : List Commit). M ++ w.work) w.sweep.2

    again : IsSwept S (replay start (drops 0 w.sweep.0 ++ w.work)) (replay start (drops 0 w.sweep.0 ++ w.work)).kept w.last.0
    again = subst (λ (M : List Commit). IsSwept S (replay start M) (replay start M).kept w.last.0) first w.last.1

    is : J ≡ (drops 0 w.sweep.0 ++ w.work) ++ drops (made 0 (drops 0 w.sweep.0 ++ w.work)) w.last.0
    is =
        w.journal
        ∙ ap₂ (λ (M L : List Commit). M ++ L) first (w.last.2 ∙ ap (λ (M : List Commit). drops (made 0 M) w.last.0) first)

-- the journal of one worker alone is fixed
pub lone_one : (S : List Point) (D : List Costed) (rounds seed : ℕ) (start : List Pair) (J L : List Commit) → AreAccepted S → IsAscending start → IsTriangulation S start
    → IsWorkedJournal S D 1 rounds seed start J → IsWorkedJournal S D 1 rounds seed start L → J ≡ L
lone_one S D rounds seed start J L accepted rises tri a b =
    a.journal ∙ ap₂ (λ (M N : List Commit). M ++ N) mids ends ∙ sym b.journal
  where
    sweeps : b.swept ≡ a.swept
    sweeps = b.sweep.2 ∙ ap (drops 0) (one_sweep S (opening start) start b.sweep.0 a.sweep.0 b.sweep.1 a.sweep.1) ∙ sym a.sweep.2

    legal : IsLegalJournal S start (a.swept ++ a.work)
    legal = legal_prefix S start (a.swept ++ a.work) a.again (subst (λ (M : List Commit). IsLegalJournal S start M) a.journal a.legal)

    other : IsSearched S D start a.swept rounds seed (b.swept ++ b.work)
    other = subst (λ (M : List Commit). IsSearched S D start M rounds seed (b.swept ++ b.work)) sweeps (b.alone refl)

    mids : a.swept ++ a.work ≡ b.swept ++ b.work
    mids =
        one_rounds S D start a.swept (a.swept ++ a.work) (b.swept ++ b.work) (round_words 1 seed 0 rounds) accepted rises tri
        (legal_prefix S start a.swept a.work legal) (a.alone refl) other

    theirs : IsSwept S (replay start (a.swept ++ a.work)) (replay start (a.swept ++ a.work)).kept b.last.0
    theirs = subst (λ (M : List Commit). IsSwept S (replay start M) (replay start M).kept b.last.0) (sym mids) b.last.1

    pairs : a.last.0 ≡ b.last.0
    pairs = one_sweep S (replay start (a.swept ++ a.work)) (replay start (a.swept ++ a.work)).kept a.last.0 b.last.0 a.last.1 theirs

    ends : a.again ≡ b.again
    ends = a.last.2 ∙ ap₂ (λ (M : List Commit) (d : List Pair). drops (made 0 M) d) mids pairs ∙ sym b.last.2
