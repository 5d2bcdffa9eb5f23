-- What a reader of the report of a solved instance may rest on.
use Rattle.std.proofs.Common.{◌≡◌, ◌↔◌, ℕ, ◌≤◌, ◌<◌, List, ◌++◌, length, get_or, IsTrue, inl, inr, ap, sym, subst, arith}
use Rattle.plane.specs.declared.coordinates.Point.{Point}
use Rattle.plane.specs.declared.segment.Pair.{Pair}
use Rattle.plane.specs.Accepted.{AreAccepted}
use Rattle.partition_defs.specs.Ascending.{ComesFirst, IsAscending}
use Rattle.partition_defs.specs.Triangulation.{AreDistinct}
use Rattle.partition_defs.specs.Partition.{IsConvexPartition}
use Rattle.cost_defs.specs.Costs.{Costed, total}
use Rattle.journal_defs.specs.declared.commit.Commit.{Commit}
use Rattle.journal_defs.specs.Edits.{IsSound}
use Rattle.journal_defs.specs.Journal.{replay}
use Rattle.journal_defs.proofs.laws.Start.{sound_legal}
use Rattle.price_defs.specs.declared.row.Certificate.{Certificate}
use Rattle.solve_defs.specs.Solved.{IsBound, IsSolved}
use Rattle.solve_defs.proofs.laws.Histories.{history, none_below}
use Rattle.report_io.specs.declared.report.Report.{Report}
use Rattle.solve_report.specs.Reports.{IsSolvedReport}
use Rattle.solve_report.specs.Headline.{IsConvexThroughout, IsLastAndMinimal, NoneIsBelowBound, TellsOptimal}
use Rattle.partition_defs.proofs.laws.Has.{ascending_distinct}

pub solution_sound : (S : List Point) (D : List Costed) (E : ℕ) (start : List Pair) (J : List Commit) (K : List Pair) (C : Certificate) → AreAccepted S → IsSolved S D E start J K C → IsSound S (replay start J)
solution_sound S D E start J K C accepted solved = sound_legal S start J accepted solved.ascending solved.triangulation solved.journal.edits

-- the solution of a solved instance is a convex partition
pub solution_convex : (S : List Point) (D : List Costed) (E : ℕ) (start : List Pair) (J : List Commit) (K : List Pair) (C : Certificate) → AreAccepted S → IsSolved S D E start J K C → IsConvexPartition S K
solution_convex S D E start J K C accepted solved = subst (IsConvexPartition S) solved.result (solution_sound S D E start J K C accepted solved).partition

-- so it costs no less than the bound
pub bound_low : (S : List Point) (D : List Costed) (E : ℕ) (start : List Pair) (J : List Commit) (K : List Pair) (C : Certificate) (v : ℕ) → AreAccepted S → IsSolved S D E start J K C → IsBound S D C v → v ≤ total D K
bound_low S D E start J K C v accepted solved bound =
    none_below S D E start J K C v K accepted.count.0 solved bound (solution_convex S D E start J K C accepted solved)
    (ascending_distinct K (subst IsAscending solved.result (solution_sound S D E start J K C accepted solved).kept_ascending))

pub convex_throughout : (E : ℕ) (r : Report) → AreAccepted r.instance.points → IsSolvedReport E r → IsConvexThroughout r
convex_throughout E r accepted h = λ A L is. history r.instance.points r.instance.costs E r.start r.commits A L r.solution r.certificate accepted h.solved is

pub none_below_bound : (E : ℕ) (r : Report) → AreAccepted r.instance.points → IsSolvedReport E r → NoneIsBelowBound r
none_below_bound E r accepted h = λ K convex distinct.
    subst (λ (n : ℕ). n ≤ total r.instance.costs K) (sym h.summary.bound)
    (none_below r.instance.points r.instance.costs E r.start r.commits r.solution r.certificate r.value K accepted.count.0 h.solved h.value convex distinct)

pub tells_optimal : (E : ℕ) (r : Report) → IsSolvedReport E r → TellsOptimal r
tells_optimal E r h = subst (λ (n : ℕ). IsTrue r.summary.optimal ↔ (total r.instance.costs r.solution ≡ n)) (sym h.summary.bound) h.summary.optimal

pub last_and_minimal : (E : ℕ) (r : Report) → AreAccepted r.instance.points → IsSolvedReport E r → IsLastAndMinimal r
last_and_minimal E r accepted h = record {
  last = h.solved.result;
  partition = solution_convex r.instance.points r.instance.costs E r.start r.commits r.solution r.certificate accepted h.solved;
  minimal = h.solved.minimal;
}
