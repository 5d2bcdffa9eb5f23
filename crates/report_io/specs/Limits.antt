-- The limits that the readings of reports keep. (This project's own.)
use Rattle.std.specs.Prelude.{ℕ, ◌<◌, ◌≤◌, ◌^◌, List, length}
use Rattle.std.specs.List.{All}
use Rattle.plane.specs.declared.coordinates.Point.{Point}
use Rattle.plane.specs.declared.segment.Pair.{Pair}
use Rattle.journal_defs.specs.declared.edit.Edit.{Edit}
use Rattle.journal_defs.specs.declared.edit.Edit.TheVariants.{Drop, Keep, Flip}
use Rattle.journal_defs.specs.declared.commit.Commit.{Commit}
use Rattle.journal_defs.specs.Journal.{HasSize}
use Rattle.price_defs.specs.declared.row.Certificate.{Certificate}
use Rattle.price_defs.specs.Limits.{IsIndexed, AreLight}
use Rattle.instance_io.specs.declared.instances.Instance.{Instance}
use Rattle.report_io.specs.declared.report.Report.{Report}
use Rattle.report_io.specs.declared.summary.Summary.{Summary}
use Rattle.report_io.specs.Reading.{most_divisor, most_callers, most_start, most_commits}
use Rattle.report_io.specs.Report.{HasVersion}

-- the pairs are of the first n points
abbrev pub AreBelow : ℕ → List Pair → Type 0
AreBelow n pairs = All (λ e. e.hi < n) pairs

abbrev pub IsEditBelow : ℕ → Edit → Type 0
IsEditBelow n (Drop e) = e.hi < n
IsEditBelow n (Keep e) = e.hi < n
IsEditBelow n (Flip e f) = (e.hi < n) × (f.hi < n)

pub record IsCommitWithin (n : ℕ) (c : Commit) : Type 0 where
  pub caller : c.caller ≤ most_callers
  pub first : 1 ≤ c.seq
  pub seq : c.seq < 2 ^ 32
  pub size : HasSize c
  pub edits : All (IsEditBelow n) c.edits

pub record IsCertificateWithin (S : List Point) (C : Certificate) : Type 0 where
  pub q : C.q ≤ most_divisor
  pub indexed : All (IsIndexed S) C.rows
  pub light : AreLight C.rows

pub record IsJournalWithin (n : ℕ) (start : List Pair) (J : List Commit) : Type 0 where
  pub few : length start ≤ most_start
  pub pairs : AreBelow n start
  pub count : length J ≤ most_commits
  pub commits : All (IsCommitWithin n) J

pub record IsSummaryWithin (s : Summary) : Type 0 where
  pub bound : s.bound < 2 ^ 63
  pub some : 1 ≤ length s.commits
  pub few : length s.commits ≤ 17
  pub commits : All (λ c. c < 2 ^ 32) s.commits
  pub cost : s.cost < 2 ^ 63
  pub edges : s.edges < 2 ^ 32
  pub gap : s.gap < 2 ^ 63
  pub version : HasVersion s

pub record IsInstanceWithin (I : Instance) : Type 0 where
  pub short : length I.name ≤ 1000
  pub few : length I.costs ≤ 300000
  pub below : All (λ x. x.0.hi < length I.points) I.costs

-- what a reading of a report always keeps, of the parts behind the instance
pub record AreLaterWithin (r : Report) : Type 0 where
  pub few : length r.solution ≤ 20000
  pub solution : AreBelow (length r.instance.points) r.solution
  pub certificate : IsCertificateWithin r.instance.points r.certificate
  pub value : r.value < 2 ^ 63
  pub journal : IsJournalWithin (length r.instance.points) r.start r.commits
  pub summary : IsSummaryWithin r.summary

pub record IsWithin (r : Report) : Type 0 where
  pub instance : IsInstanceWithin r.instance
  pub later : AreLaterWithin r
