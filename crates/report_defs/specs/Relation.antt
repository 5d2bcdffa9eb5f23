-- When a report is right. (This project's own, over the definitions of its parts.)
use Rattle.std.specs.Prelude.{◌≡◌, List}
use Rattle.plane.specs.declared.segment.Pair.{Pair}
use Rattle.partition_defs.specs.Ascending.{IsAscending}
use Rattle.partition_defs.specs.Partition.{IsConvexPartition}
use Rattle.partition_defs.specs.Sets.{AreSame, IsMinimal}
use Rattle.partition_defs.specs.Triangulation.{AreDistinct, IsTriangulation}
use Rattle.journal_defs.specs.Journal.{IsLegalJournal, replay}
use Rattle.price_defs.specs.Loads.{IsValid}
use Rattle.solve_defs.specs.Solved.{IsBound}
use Rattle.report_io.specs.declared.report.Report.{Report}
use Rattle.report_defs.specs.Summaries.{IsSummaryRight}

-- the solution stands under the instance's name
abbrev pub HasName : Report → Type 0
HasName r = r.solution_name ≡ r.instance.name

-- the solution has no pair twice and is a convex partition
abbrev pub HasSolution : Report → Type 0
HasSolution r = AreDistinct r.solution × IsConvexPartition r.instance.points r.solution

-- the start has no pair twice and is a triangulation
abbrev pub HasStart : Report → Type 0
HasStart r = AreDistinct r.start × IsTriangulation r.instance.points r.start

-- the list has the pairs of the start, ascending
abbrev pub IsStartInOrder : Report → List Pair → Type 0
IsStartInOrder r start = IsAscending start × AreSame start r.start

abbrev pub HasJournal : Report → List Pair → Type 0
HasJournal r start = IsLegalJournal r.instance.points start r.commits

-- the pairs that are kept in the end are those of the solution
abbrev pub HasResult : Report → List Pair → Type 0
HasResult r start = AreSame (replay start r.commits).kept r.solution

-- no pair of the solution can go
abbrev pub HasLeast : Report → Type 0
HasLeast r = IsMinimal r.instance.points r.solution

abbrev pub HasCertificate : Report → Type 0
HasCertificate r = IsValid r.instance.points r.instance.costs r.certificate.q r.certificate.rows

-- the value is the certificate's
abbrev pub HasValue : Report → Type 0
HasValue r = IsBound r.instance.points r.instance.costs r.certificate r.value

-- name, solution and start are right
pub record HasHead (r : Report) : Type 0 where
  pub name : HasName r
  pub solution : HasSolution r
  pub start : HasStart r

-- and the journal leads from the start to the solution
pub record HasHistory (r : Report) : Type 0 where
  pub head : HasHead r
  pub start : List Pair
  pub order : IsStartInOrder r start
  pub journal : HasJournal r start
  pub result : HasResult r start

-- a right report
pub record IsRight (r : Report) : Type 0 where
  pub history : HasHistory r
  pub least : HasLeast r
  pub certificate : HasCertificate r
  pub value : HasValue r
  pub summary : IsSummaryRight r
