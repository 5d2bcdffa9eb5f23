-- What the parts of a run are.
use Rattle.std.proofs.Common.{◌≡◌, ℕ, ◌+◌, ◌*◌, ◌≤◌, ◌⊎◌, List, ◌++◌, length, length-append, Result, Ok, Err, IfOk, inl, inr, sym, ◌∙◌, subst, ap, ap₂, arith}
use Rattle.plane.specs.declared.coordinates.Point.{Point}
use Rattle.plane.specs.declared.segment.Pair.{Pair}
use Rattle.plane.specs.Accepted.{AreAccepted}
use Rattle.partition_defs.specs.Ascending.{IsAscending}
use Rattle.partition_defs.specs.Triangulation.{HasTriangulationCount}
use Rattle.cost_defs.specs.Costs.{Costed}
use Rattle.journal_defs.specs.declared.commit.Commit.{Commit}
use Rattle.journal_defs.specs.Journal.{opening, replay, IsLegalJournal}
use Rattle.journal_defs.proofs.laws.Later.{dropped_count, drops_count}
use Rattle.price_defs.specs.declared.row.Certificate.{Certificate}
use Rattle.search_defs.specs.Best.{IsBest}
use Rattle.solve_defs.specs.PlainRun.{IsSweepJournal}
use Rattle.solve_defs.specs.Solved.{IsBound, IsSolved}
use Rattle.solve_defs.proofs.laws.Plain.{plain_solved}
use Rattle.round_defs.specs.Rounds.{IsSearched}
use Rattle.run_defs.specs.WorkedRun.{IsSweepAfter, IsWorkedJournal}
use Rattle.run_defs.proofs.laws.Fewer.{kept_fewer}
use Rattle.run_defs.proofs.laws.Worked.{within, worked_solved}
use Rattle.triangulate.specs.Start.{IsStart}
use Rattle.mcp_outside.specs.declared.ends.NoMemory.{NoMemory}
use Rattle.replay.specs.Replayed.{Replayed}
use Rattle.lower_bounds.specs.Bounds.{IsBase, IsLowerBound}
use Rattle.lower_bounds.specs.declared.bests.Search.{Search}
use Rattle.lower_bounds.specs.declared.bounding.LowerBound.{LowerBound}
use Rattle.solver.specs.declared.solving.Solved.{Solved}
use Rattle.solver.specs.Solving.{IsSolvedBy}
use Rattle.solver.specs.Working.{IsWorkAfter, HasBeenWorked, HasBeenSwept}

-- a triangulation has few pairs
pub few_pairs : (S : List Point) (D : List Costed) (T : List Pair) (C : Certificate) (v : ℕ) → AreAccepted S → HasTriangulationCount S T → IsBound S D C v → length T ≤ 15000
few_pairs S D T C v accepted count (B, list, is) =
    let n : length T + length B + 3 ≡ 3 * length S = count B list in
    let m : length S ≤ 5000 = accepted.count.1 in
    omega (arith, n, m)

-- a journal from a start that is solved with E edit workers, by one of the two ways
pub record IsRun (S : List Point) (D : List Costed) (E : ℕ) (search : Search) (start : List Pair) (J : List Commit) (C : Certificate) : Type 0 where
  pub plain : (E ≡ 0) ⊎ (search.rounds ≡ 0) → IsSweepJournal S start J
  pub worked : 1 ≤ E → 1 ≤ search.rounds → IsWorkedJournal S D E search.rounds search.seed start J
  pub solved : IsSolved S D E start J (replay start J).kept C

pub plain_run : (S : List Point) (D : List Costed) (E : ℕ) (search : Search) (start : List Pair) (J : List Commit) (found : LowerBound) → AreAccepted S
    → IsAscending start → IsStart S start → length start ≤ 15000 → (E ≡ 0) ⊎ (search.rounds ≡ 0) → IsSweepJournal S start J → IsLowerBound S D search found
    → IsRun S D E search start J found.certificate
plain_run S D E search start J found accepted rises is few none swept low = record {
  plain = λ _. swept;
  worked = λ some more. absurd (elim none [ inl a ↦ omega (arith, a, some) | inr b ↦ omega (arith, b, more) ]);
  solved = plain_solved S D E search.workers search.rounds search.seed start J found.certificate accepted rises is.triangulation is.sweep (omega (arith, few)) swept low.best low.divisor low.light;
}

pub worked_run : (S : List Point) (D : List Costed) (E : ℕ) (search : Search) (start : List Pair) (J : List Commit) (found : LowerBound) → AreAccepted S
    → IsAscending start → IsStart S start → length start ≤ 15000 → (1 ≤ E) × (E ≤ 16) → (1 ≤ search.rounds) × (search.rounds ≤ 1000)
    → IsWorkedJournal S D E search.rounds search.seed start J → IsLowerBound S D search found → IsRun S D E search start J found.certificate
worked_run S D E search start J found accepted rises is few some more worked low = record {
  plain = λ none. absurd (elim none [ inl a ↦ (let n : 1 ≤ E = some.0 in omega (arith, a, n)) | inr b ↦ (let n : 1 ≤ search.rounds = more.0 in omega (arith, b, n)) ]);
  worked = λ _ _. worked;
  solved = worked_solved S D E search.workers search.rounds search.seed start J found.certificate accepted rises is.triangulation is.sweep few some.1 more.1 worked low.best low.divisor low.light;
}

-- the parts of a run are a solved instance
solved_by : (S : List Point) (D : List Costed) (E : ℕ) (search : Search) (run : Solved) (found : LowerBound) → AreAccepted S → IsStart S run.start.items → length run.start.items ≤ 15000
    → IsLowerBound S D search found → IsRun S D E search run.start.items run.journal.items found.certificate
    → run.points ≡ S → run.kept.items ≡ (replay run.start.items run.journal.items).kept → run.certificate ≡ found.certificate → run.bound ≡ found.bound
    → IsSolvedBy S D E search run
solved_by S D E search run found accepted start few low is points kept certificate bound = record {
  points = points;
  start = start.set;
  plain = is.plain;
  worked = is.worked;
  best = subst (IsBest S D search.workers search.rounds search.seed) (sym certificate) low.best;
  bound = subst (λ (C : Certificate). IsBound S D C run.bound) (sym certificate) (subst (IsBound S D found.certificate) (sym bound) low.bound);
  solved = subst (λ (K : List Pair). IsSolved S D E run.start.items run.journal.items K run.certificate) (sym kept)
      (subst (λ (C : Certificate). IsSolved S D E run.start.items run.journal.items (replay run.start.items run.journal.items).kept C) (sym certificate) is.solved);
  few = few;
  fewer = subst (λ (K : List Pair). length K ≤ length run.start.items) (sym kept)
      (kept_fewer S run.start.items run.journal.items accepted is.solved.ascending is.solved.triangulation is.solved.journal);
}

-- the parts of a run, out of its core and its lower bound
pub parts_solved : (S : List Point) (D : List Costed) (E : ℕ) (search : Search) (all : List Pair) (core : Replayed) (found : LowerBound) (r : Result Solved NoMemory) → AreAccepted S
    → IsStart S all → length all ≤ 15000 → IsLowerBound S D search found → core.points ≡ S → core.start ≡ all → IsRun S D E search all core.journal found.certificate
    → IfOk r (λ run. run.points ≡ core.points) → IfOk r (λ run. run.start.items ≡ core.start) → IfOk r (λ run. run.journal.items ≡ core.journal)
    → IfOk r (λ run. run.kept.items ≡ (replay core.start core.journal).kept) → IfOk r (λ run. run.certificate ≡ found.certificate) → IfOk r (λ run. run.bound ≡ found.bound)
    → IfOk r (IsSolvedBy S D E search)
parts_solved S D E search all core found (Err fault) accepted start few low own first is points from journal kept certificate bound = tt
parts_solved S D E search all core found (Ok run) accepted start few low own first is points from journal kept certificate bound =
    let same : run.start.items ≡ all = from ∙ first in
    solved_by S D E search run found accepted (subst (IsStart S) (sym same) start) (subst (λ (T : List Pair). length T ≤ 15000) (sym same) few) low
    (subst (λ (T : List Pair). IsRun S D E search T run.journal.items found.certificate) (sym same)
    (subst (λ (J : List Commit). IsRun S D E search all J found.certificate) (sym journal) is))
    (points ∙ own) (kept ∙ ap₂ (λ (T : List Pair) (J : List Commit). (replay T J).kept) (sym from) (sym journal)) certificate bound

-- the start's sweep, the workers' commits and another sweep are a run with edit workers
pub worked_journal : (S : List Point) (D : List Costed) (E : ℕ) (search : Search) (start : List Pair) (first mid last : Replayed)
    → first.points ≡ S → first.start ≡ start → IsSweepJournal S start first.journal → HasBeenWorked D E search first mid → HasBeenSwept mid last
    → IsWorkedJournal S D E search.rounds search.seed start last.journal
worked_journal S D E search start first mid last points from swept worked again = record {
  swept = first.journal;
  sweep = swept;
  work = work.work;
  workers = work.workers;
  few = work.few;
  again = again.again;
  last = subst (λ (J : List Commit). IsSweepAfter S start J again.again) work.is
      (subst (λ (T : List Pair). IsSweepAfter S T mid.journal again.again) (worked.start ∙ from)
      (subst (λ (P : List Point). IsSweepAfter P mid.start mid.journal again.again) (worked.points ∙ points) again.sweep));
  journal = again.is ∙ ap (λ (J : List Commit). J ++ again.again) work.is;
  legal = subst (λ (T : List Pair). IsLegalJournal S T last.journal) (again.start ∙ worked.start ∙ from)
      (subst (λ (P : List Point). IsLegalJournal P last.start last.journal) (again.points ∙ worked.points ∙ points) again.core.legal);
  alone = λ one. subst (λ (L : List Commit). IsSearched S D start first.journal search.rounds search.seed L) work.is (work.alone one);
}
  where
    work : IsWorkAfter S D E search.rounds search.seed start first.journal mid.journal
    work = subst (λ (T : List Pair). IsWorkAfter S D E search.rounds search.seed T first.journal mid.journal) from
        (subst (λ (P : List Point). IsWorkAfter P D E search.rounds search.seed first.start first.journal mid.journal) points worked.work)

-- the start of a run has few pairs, by what its border pairs cost
pub start_few : (S : List Point) (D : List Costed) (T : List Pair) (h : ℕ) → AreAccepted S → HasTriangulationCount S T → IsBase S D h → length T ≤ 15000
start_few S D T h accepted count base =
    let n : length T + length base.pairs + 3 ≡ 3 * length S = count base.pairs base.list in
    let m : length S ≤ 5000 = accepted.count.1 in
    omega (arith, n, m)

-- its sweep has no more commits than it has pairs
pub sweep_few : (S : List Point) (start : List Pair) (J : List Commit) → length start ≤ 15000 → IsSweepJournal S start J → length J ≤ 15000
sweep_few S start J few (dropped, swept, is) =
    let n : length J ≡ length dropped = ap (λ (M : List Commit). length M) is ∙ drops_count 0 dropped in
    let m : length dropped ≤ length start = dropped_count S (opening start) start dropped swept in
    omega (arith, n, m, few)

-- and the workers make at most 64,000 more
pub work_few : (D : List Costed) (E : ℕ) (search : Search) (old new : Replayed) → length old.journal ≤ 15000 → E ≤ 16 → search.rounds ≤ 1000 → HasBeenWorked D E search old new → length new.journal ≤ 79000
work_few D E search old new few low lower worked =
    let n : length new.journal ≡ length old.journal + length worked.work.work = ap (λ (M : List Commit). length M) worked.work.is ∙ length-append old.journal worked.work.work in
    let m : length worked.work.work ≤ 64000 = within E search.rounds (length worked.work.work) low lower worked.work.few in
    omega (arith, n, m, few)
