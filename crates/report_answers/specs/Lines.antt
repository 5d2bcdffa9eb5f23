-- The lines that the commands on reports print. (This project's own.)
use Rattle.std.specs.Prelude.{ℕ, List, ◌++◌, codes, Bool, if◌then◌else◌, nat_eq}
use Rattle.std.specs.Fmt.{decimal, signed_decimal}
use Rattle.cert_check.specs.declared.checking.CertFault.{CertFault}
use Rattle.cert_check.specs.declared.checking.CertFault.TheVariants as cert
use Rattle.fault_texts.specs.Texts.{numbered, pair_text, instance_fault_text, solution_fault_text}
use Rattle.report_io.specs.declared.faults.CertLine.{CertLine}
use Rattle.report_io.specs.declared.faults.CertLine.TheVariants as third
use Rattle.report_io.specs.declared.faults.JournalLine.{JournalLine}
use Rattle.report_io.specs.declared.faults.JournalLine.TheVariants as fourth
use Rattle.report_io.specs.declared.faults.SummaryLine.{SummaryLine}
use Rattle.report_io.specs.declared.faults.SummaryLine.TheVariants as fifth
use Rattle.report_io.specs.declared.faults.Field.{Field}
use Rattle.report_io.specs.declared.faults.Field.TheVariants.{Bound, Commits, Cost, Edges, Gap, Optimal, Version}
use Rattle.report_io.specs.declared.faults.ReportFault.{ReportFault}
use Rattle.report_io.specs.declared.faults.ReportFault.TheVariants as report
use Rattle.report_io.specs.declared.summary.Summary.{Summary}
use Rattle.report_defs.specs.declared.verdict.Verdict.{Verdict}
use Rattle.report_defs.specs.declared.verdict.Verdict.TheVariants.{Valid, NoName, NoSolution, NoStart, NoJournal, NoResult, NoLeast, NoCertificate, NoValue, NoSummary}

-- a field by its key
abbrev pub field_text : Field → List ℕ
field_text Bound = codes "bound"
field_text Commits = codes "commits"
field_text Cost = codes "cost"
field_text Edges = codes "edges"
field_text Gap = codes "gap"
field_text Optimal = codes "optimal"
field_text Version = codes "version"

abbrev pub yes_text : Bool → List ℕ
yes_text b = if b then codes "yes" else codes "no"

-- what a right report says of itself; version 1 has no cost
abbrev pub counts_text : Summary → List ℕ
counts_text s = codes "edges " ++ (decimal s.edges ++ (codes " bound " ++ (decimal s.bound
    ++ (codes " gap " ++ (decimal s.gap ++ (codes " optimal " ++ (yes_text s.optimal ++ codes "\n")))))))

abbrev pub valid_line : Summary → List ℕ
valid_line s = if nat_eq s.version 1 then codes "valid " ++ counts_text s else codes "valid cost " ++ (decimal s.cost ++ (codes " " ++ counts_text s))

-- the fault of a certificate
abbrev pub cert_fault_text : CertFault → List ℕ
cert_fault_text cert.ZeroQ = codes "ZeroQ"
cert_fault_text (cert.TooManyRows c) = numbered (codes "TooManyRows ") c
cert_fault_text (cert.BadRow k) = numbered (codes "BadRow ") k
cert_fault_text (cert.Overload e l) = codes "Overload " ++ (pair_text e ++ (codes " " ++ signed_decimal l))
cert_fault_text cert.NoMemory = codes "NoMemory"

-- the line of a verdict that says no
abbrev pub no_line : Verdict → List ℕ
no_line Valid = codes "valid\n"
no_line NoName = codes "no name\n"
no_line NoSolution = codes "no solution\n"
no_line NoStart = codes "no start\n"
no_line (NoJournal k) = codes "no journal " ++ (decimal k ++ codes "\n")
no_line NoResult = codes "no result\n"
no_line (NoLeast e) = codes "no least " ++ (pair_text e ++ codes "\n")
no_line (NoCertificate f) = codes "no certificate " ++ (cert_fault_text f ++ codes "\n")
no_line NoValue = codes "no certificate value\n"
no_line (NoSummary f) = codes "no summary " ++ (field_text f ++ codes "\n")

abbrev pub third_text : CertLine → List ℕ
third_text third.NotJson = codes "NotJson"
third_text third.NoQ = codes "NoQ"
third_text third.NoRows = codes "NoRows"
third_text (third.BadRow k) = numbered (codes "BadRow ") k
third_text third.NoValue = codes "NoValue"

abbrev pub fourth_text : JournalLine → List ℕ
fourth_text fourth.NotJson = codes "NotJson"
fourth_text fourth.NoStart = codes "NoStart"
fourth_text (fourth.TooManyStart c) = numbered (codes "TooManyStart ") c
fourth_text (fourth.BadStart k) = numbered (codes "BadStart ") k
fourth_text fourth.NoCommits = codes "NoCommits"
fourth_text (fourth.TooManyCommits c) = numbered (codes "TooManyCommits ") c
fourth_text (fourth.BadCommit k) = numbered (codes "BadCommit ") k

abbrev pub fifth_text : SummaryLine → List ℕ
fifth_text fifth.NotJson = codes "NotJson"
fifth_text (fifth.BadField f) = codes "BadField " ++ field_text f

-- the fault of a text that is no report, with its line's number; want of memory is never printed
abbrev pub report_fault_text : ReportFault → List ℕ
report_fault_text (report.Lines c) = numbered (codes "Lines ") c
report_fault_text (report.Instance f) = codes "1 " ++ instance_fault_text f
report_fault_text report.NoSolutionName = codes "2 NoName"
report_fault_text (report.Solution f) = codes "2 " ++ solution_fault_text f
report_fault_text (report.Certificate f) = codes "3 " ++ third_text f
report_fault_text (report.Journal f) = codes "4 " ++ fourth_text f
report_fault_text (report.Summary f) = codes "5 " ++ fifth_text f
report_fault_text report.NoMemory = codes "NoMemory"

abbrev pub refused_line : ReportFault → List ℕ
refused_line f = codes "refused report " ++ (report_fault_text f ++ codes "\n")

-- a journal of so many commits has no later moment
abbrev pub too_late_line : ℕ → List ℕ
too_late_line commits = codes "refused rewind TooLate " ++ (decimal commits ++ codes "\n")
