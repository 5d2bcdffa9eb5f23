-- What the reader of a report of a solved instance may rest on. (This project's own.)
use Rattle.std.specs.Prelude.{◌≡◌, ◌↔◌, ◌≤◌, List, ◌++◌, IsTrue}
use Rattle.plane.specs.declared.segment.Pair.{Pair}
use Rattle.partition_defs.specs.Partition.{IsConvexPartition}
use Rattle.partition_defs.specs.Sets.{IsMinimal}
use Rattle.partition_defs.specs.Triangulation.{AreDistinct}
use Rattle.cost_defs.specs.Costs.{total}
use Rattle.journal_defs.specs.declared.commit.Commit.{Commit}
use Rattle.journal_defs.specs.Journal.{IsLegalJournal, replay}
use Rattle.report_io.specs.declared.report.Report.{Report}

-- each beginning of the journal is legal, and the segments that are kept after it are a convex partition
abbrev pub IsConvexThroughout : Report → Type 0
IsConvexThroughout r = (A L : List Commit) → r.commits ≡ A ++ L
    → IsLegalJournal r.instance.points r.start A × IsConvexPartition r.instance.points (replay r.start A).kept

-- no convex partition costs less than the printed bound
abbrev pub NoneIsBelowBound : Report → Type 0
NoneIsBelowBound r = (K : List Pair) → IsConvexPartition r.instance.points K → AreDistinct K → r.summary.bound ≤ total r.instance.costs K

-- optimal is printed exactly where the solution costs as much as the printed bound says
abbrev pub TellsOptimal : Report → Type 0
TellsOptimal r = IsTrue r.summary.optimal ↔ (total r.instance.costs r.solution ≡ r.summary.bound)

-- the solution is a convex partition, the one after the whole journal, and no segment of it can be removed
pub record IsLastAndMinimal (r : Report) : Type 0 where
  pub last : (replay r.start r.commits).kept ≡ r.solution
  pub partition : IsConvexPartition r.instance.points r.solution
  pub minimal : IsMinimal r.instance.points r.solution
