-- The statements of the laws of reports.
use Rattle.std.specs.Prelude.{◌≡◌, ◌↔◌, ℕ, ◌+◌, ◌≤◌, IsTrue, List, ◌++◌, length, slice_index}
use Rattle.plane.specs.declared.coordinates.Point.{Point}
use Rattle.plane.specs.declared.segment.Pair.{Pair}
use Rattle.partition_defs.specs.Partition.{IsConvexPartition}
use Rattle.partition_defs.specs.Sets.{AreSame, IsMinimal}
use Rattle.partition_defs.specs.Triangulation.{AreDistinct}
use Rattle.cost_defs.specs.Costs.{total}
use Rattle.journal_defs.specs.declared.commit.Commit.{Commit}
use Rattle.journal_defs.specs.Journal.{made, replay}
use Rattle.solve_defs.specs.Solved.{IsBound, IsSolved}
use Rattle.report_io.specs.declared.report.Report.{Report}
use Rattle.report_defs.specs.Relation.{HasName, IsStartInOrder, IsRight}

-- What the reader of a right report may rest on: the solution is a convex partition without repeats, none of its pairs can
-- go, it is what the journal ends with, each beginning of the journal leads to a convex partition, and no convex partition
-- costs less than the value.
pub record IsTold (r : Report) : Type 0 where
  pub distinct : AreDistinct r.solution
  pub partition : IsConvexPartition r.instance.points r.solution
  pub minimal : IsMinimal r.instance.points r.solution
  pub start : List Pair
  pub order : IsStartInOrder r start
  pub end : AreSame (replay start r.commits).kept r.solution
  pub history : (A L : List Commit) → r.commits ≡ A ++ L → IsConvexPartition r.instance.points (replay start A).kept
  pub bound : (K : List Pair) → IsConvexPartition r.instance.points K → AreDistinct K → r.value ≤ total r.instance.costs K

abbrev pub RightIsTold : List Point → Type 0
RightIsTold S = (r : Report) → r.instance.points ≡ S → IsRight r → IsTold r

-- what the summary of a solved instance says, with E edit workers
pub record IsSummaryOf (E : ℕ) (r : Report) : Type 0 where
  pub bound : r.summary.bound ≡ r.value
  pub callers : length r.summary.commits ≡ E + 1
  pub commits : (c : ℕ) → c ≤ E → slice_index r.summary.commits c ≡ made c r.commits
  pub cost : r.summary.cost ≡ total r.instance.costs r.solution
  pub edges : r.summary.edges ≡ length r.solution
  pub gap : r.summary.gap + r.value ≡ r.summary.cost
  pub optimal : IsTrue r.summary.optimal ↔ (r.summary.cost ≡ r.value)
  pub version : r.summary.version ≡ 2

-- The report of a solved instance is right.
abbrev pub SolvedIsRight : List Point → Type 0
SolvedIsRight S =
    (r : Report) (E : ℕ) → r.instance.points ≡ S → HasName r
    → IsSolved r.instance.points r.instance.costs E r.start r.commits r.solution r.certificate
    → IsBound r.instance.points r.instance.costs r.certificate r.value → IsSummaryOf E r → IsRight r
