-- The run without edit workers is a solved instance.
use Rattle.std.proofs.Common.{◌≡◌, ℕ, ◌+◌, ◌≤◌, suc, inl, inr, List, [], ◌∷◌, length, sym, ◌∙◌, refl, ap, subst, arith, cond, nat_eq}
use Rattle.std.specs.List.{All, AllByRecursion}
use Rattle.std.proofs.lemmas.List.Sums.{sum_by-cons}
use Rattle.std.proofs.lemmas.List.Elements.{All-from_recursion}
use Rattle.plane.specs.declared.coordinates.Point.{Point}
use Rattle.plane.specs.declared.segment.Pair.{Pair}
use Rattle.plane.specs.Accepted.{AreAccepted}
use Rattle.partition_defs.specs.Ascending.{IsAscending}
use Rattle.partition_defs.specs.Sets.{IsMinimal}
use Rattle.partition_defs.specs.Sweep.{AreSweepPairs}
use Rattle.partition_defs.specs.Triangulation.{IsTriangulation}
use Rattle.cost_defs.specs.Costs.{Costed}
use Rattle.journal_defs.specs.declared.edit.Edit.TheVariants.{Drop}
use Rattle.journal_defs.specs.declared.commit.Commit.{Commit}
use Rattle.journal_defs.specs.Edits.{State, IsSound, after}
use Rattle.journal_defs.specs.Journal.{opening, replay, made, HasSize, IsSwept, drops}
use Rattle.journal_defs.proofs.laws.Later.{legal_drops, seqs_drops, swept_minimal, replay_drops, one_sweep, dropped_count, drops_count}
use Rattle.journal_defs.proofs.laws.Start.{sound_opening}
use Rattle.price_defs.specs.declared.row.Certificate.{Certificate}
use Rattle.price_defs.specs.declared.row.TheConstants.{MOST_DIVISOR}
use Rattle.price_defs.specs.Limits.{AreLight}
use Rattle.search_defs.specs.Best.{IsBest}
use Rattle.solve_defs.specs.Solved.{IsNoDearer, IsSweeps, IsManned, IsSolved}
use Rattle.solve_defs.specs.PlainRun.{IsSweepJournal}
use Rattle.solve_defs.proofs.laws.Bests.{IsAboveFloor, best_above}

-- all of its commits are of caller 0
drops_made : (n : ℕ) (dropped : List Pair) → made 0 (drops n dropped) ≡ length dropped
drops_made n [] = refl
drops_made n (e ∷ dropped) =
    let c : Commit = record { caller = 0; seq = n + 1; edits = Drop e ∷ [] } in
    let rest : made 0 (drops (n + 1) dropped) ≡ length dropped = drops_made (n + 1) dropped in
    let all : made 0 (drops n (e ∷ dropped)) ≡ 1 + made 0 (drops (n + 1) dropped) = sum_by-cons (λ (k : Commit). cond (nat_eq k.caller 0) 1 0) c (drops (n + 1) dropped) in
    omega (arith, all, rest)

-- what holds of each Drop of caller 0 holds of all
each_drop : (P : Commit → Type 0) → ((n : ℕ) (e : Pair) → P (record { caller = 0; seq = n + 1; edits = Drop e ∷ [] })) → (n : ℕ) (dropped : List Pair) → All P (drops n dropped)
each_drop P holds n dropped = All-from_recursion P (drops n dropped) (go n dropped)
  where
    go : (n : ℕ) (dropped : List Pair) → AllByRecursion P (drops n dropped)
    go n [] = tt
    go n (e ∷ dropped) = (holds n e, go (n + 1) dropped)

sweeps_manned : (E : ℕ) (dropped : List Pair) → length dropped ≤ 30000 → IsManned E (drops 0 dropped)
sweeps_manned E dropped few = record {
  callers = each_drop (λ c. c.caller ≤ E) (λ n e. omega arith) 0 dropped;
  sweeps = each_drop IsSweeps (λ n e own. (e, refl)) 0 dropped;
  swept = subst (λ n. n ≤ 30000) (sym (drops_made 0 dropped)) few;
  worked = let a : length (drops 0 dropped) ≡ length dropped = drops_count 0 dropped in let b : made 0 (drops 0 dropped) ≡ length dropped = drops_made 0 dropped in omega (arith, a, b);
}

no_dearer : (D : List Costed) (e : Pair) → IsNoDearer D (Drop e ∷ [])
no_dearer D e = omega arith

pub plain_solved : (S : List Point) (D : List Costed) (E workers rounds seed : ℕ) (start : List Pair) (J : List Commit) (C : Certificate) → AreAccepted S
    → IsAscending start → IsTriangulation S start → AreSweepPairs S start → length start ≤ 30000
    → IsSweepJournal S start J → IsBest S D workers rounds seed C → C.q ≤ MOST_DIVISOR → AreLight C.rows
    → IsSolved S D E start J (replay start J).kept C
plain_solved S D E workers rounds seed start J C accepted rises tri sweep few (dropped, swept, is) best divisor light =
    subst (λ (M : List Commit). IsSolved S D E start M (replay start M).kept C) (sym is)
    (
    let above : IsAboveFloor S D C = best_above S D workers rounds seed C accepted best in
    let so : IsSound S (opening start) = sound_opening S start accepted rises tri in
    record {
      ascending = rises;
      triangulation = tri;
      sweep = sweep;
      journal = record {
        sizes = each_drop HasSize (λ n e. (omega arith, omega arith)) 0 dropped;
        edits = legal_drops S 0 (opening start) start dropped swept;
        seqs = seqs_drops 0 dropped [] refl;
      };
      manned = sweeps_manned E dropped (let n : length dropped ≤ length start = dropped_count S (opening start) start dropped swept in omega (arith, n, few));
      dearer = each_drop (λ c. IsNoDearer D c.edits) (λ n e. no_dearer D e) 0 dropped;
      result = refl;
      minimal = subst (λ (s : State). IsMinimal S s.kept) (sym (replay_drops 0 dropped (opening start))) (swept_minimal S (opening start) dropped so swept);
      valid = above.0.valid;
      tight = above.0.tight;
      floor = above.1;
      divisor = divisor;
      light = light;
    }
    )

pub one_journal : (S : List Point) (start : List Pair) (J L : List Commit) → IsSweepJournal S start J → IsSweepJournal S start L → J ≡ L
one_journal S start J L (d, swept, is) (f, also, same) = is ∙ ap (drops 0) (one_sweep S (opening start) start d f swept also) ∙ sym same
