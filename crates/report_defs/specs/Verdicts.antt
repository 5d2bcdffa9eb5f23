-- The first part of a report that fails. (This project's own order.)
use Rattle.std.specs.Prelude.{◌≡◌, ◌≢◌, ℕ, ◌+◌, ◌<◌, take, List, length}
use Rattle.std.specs.List.{Contains}
use Rattle.plane.specs.declared.coordinates.Point.{Point}
use Rattle.plane.specs.declared.segment.Pair.{Pair}
use Rattle.partition_defs.specs.Ascending.{ComesFirst}
use Rattle.partition_defs.specs.Partition.{IsConvexPartition}
use Rattle.partition_defs.specs.Sets.{without}
use Rattle.journal_defs.specs.declared.commit.Commit.{Commit}
use Rattle.journal_defs.specs.Journal.{IsLegalJournal}
use Rattle.cert_check.specs.declared.checking.CertFault.{CertFault}
use Rattle.cert_check.specs.declared.checking.CertFault.TheVariants.{NoMemory}
use Rattle.cert_check.specs.Answers.{IsCertFault}
use Rattle.report_io.specs.declared.report.Report.{Report}
use Rattle.report_defs.specs.declared.verdict.Verdict.{Verdict}
use Rattle.report_defs.specs.declared.verdict.Verdict.TheVariants.{Valid, NoName, NoSolution, NoStart, NoJournal, NoResult, NoLeast, NoCertificate, NoValue, NoSummary}
use Rattle.report_defs.specs.Relation.{HasName, HasSolution, HasStart, IsStartInOrder, HasJournal, HasResult, HasLeast, HasCertificate, HasValue, HasHead, HasHistory, IsRight}
use Rattle.report_defs.specs.Summaries.{IsSummaryFault}

-- commit k, counted from 1, is the first after which the journal isn't legal
pub record IsFirstBadCommit (S : List Point) (start : List Pair) (J : List Commit) (k : ℕ) : Type 0 where
  pub before : ℕ
  pub number : k ≡ before + 1
  pub within : before < length J
  pub legal : IsLegalJournal S start (take before J)
  pub illegal : ¬ IsLegalJournal S start (take (before + 1) J)

-- e is the least pair without which the pairs are a convex partition still
pub record IsFirstToGo (S : List Point) (K : List Pair) (e : Pair) : Type 0 where
  pub there : Contains K e
  pub can : IsConvexPartition S (without e K)
  pub first : (f : Pair) → Contains K f → ComesFirst f e → ¬ IsConvexPartition S (without f K)

-- the history is right, and no pair of the solution can go
abbrev pub HasSolved : Report → Type 0
HasSolved r = HasHistory r × HasLeast r

-- The verdict on a report: all parts before the one that it names are right, and that one fails so.
abbrev pub IsVerdict : Report → Verdict → Type 0
IsVerdict r Valid = IsRight r
IsVerdict r NoName = ¬ HasName r
IsVerdict r NoSolution = HasName r × (¬ HasSolution r)
IsVerdict r NoStart = HasName r × HasSolution r × (¬ HasStart r)
IsVerdict r (NoJournal k) = HasHead r × ((start : List Pair) × IsStartInOrder r start × IsFirstBadCommit r.instance.points start r.commits k)
IsVerdict r NoResult = HasHead r × ((start : List Pair) × IsStartInOrder r start × HasJournal r start × (¬ HasResult r start))
IsVerdict r (NoLeast e) = HasHistory r × IsFirstToGo r.instance.points r.solution e
IsVerdict r (NoCertificate fault) = HasSolved r × (fault ≢ NoMemory) × IsCertFault r.instance.points r.instance.costs r.certificate.q r.certificate.rows fault
IsVerdict r NoValue = HasSolved r × HasCertificate r × (¬ HasValue r)
IsVerdict r (NoSummary field) = HasSolved r × HasCertificate r × HasValue r × IsSummaryFault r field
