-- A report: its parts, its text, and how a text is answered.
use Rattle.std.specs.Prelude.{◌≡◌, ◌≢◌, ◌≤◌, ◌<◌, ◌^◌, ◌↔◌, ◌⊎◌, ℕ, List, [], ◌∷◌, map, length, Result, Ok, Err}
use Rattle.serde_json.specs.Data.{Data}
use Rattle.serde_json.specs.Written.{compact_text}
use Rattle.plane.specs.Accepted.{AreAccepted}
use Rattle.plane.specs.declared.segment.Pair.{Pair}
use Rattle.text_defs.specs.Instances.{instance_from}
use Rattle.text_defs.specs.Lines.{lines, lines_text}
use Rattle.text_defs.specs.Texts.{instance_data, with_costs, solution_data}
use Rattle.journal_defs.specs.declared.edit.Edit.{Edit}
use Rattle.journal_defs.specs.declared.edit.Edit.TheVariants.{Drop, Keep, Flip}
use Rattle.journal_defs.specs.declared.commit.Commit.{Commit}
use Rattle.price_defs.specs.declared.row.Row.{Row}
use Rattle.price_defs.specs.declared.row.Row.TheVariants.{Half, Three, Cross, Cap}
use Rattle.price_defs.specs.declared.row.Certificate.{Certificate}
use Rattle.instance_io.specs.Refusal as instances
use Rattle.instance_io.specs.Refusal.{ends, coordinates, cost_item}
use Rattle.instance_io.specs.declared.instances.Instance.{Instance}
use Rattle.instance_io.specs.declared.instances.InstanceFault.{InstanceFault}
use Rattle.instance_io.specs.declared.instances.InstanceFault.TheVariants as named
use Rattle.report_io.specs.declared.report.Report.{Report}
use Rattle.report_io.specs.declared.report.Part.{Part}
use Rattle.report_io.specs.declared.report.Part.TheVariants as part
use Rattle.report_io.specs.declared.summary.Summary.{Summary}
use Rattle.report_io.specs.declared.faults.ReportFault.{ReportFault}
use Rattle.report_io.specs.declared.faults.ReportFault.TheVariants as at
use Rattle.report_io.specs.Parts.{EditItem, dropped, kept, flipped, RowItem, half, three, cross, cap, CommitItem, SolutionParts, CertificateParts, JournalParts, LaterParts}
use Rattle.report_io.specs.Reading.{later_from}
use Rattle.report_io.specs.Texts.{certificate_data, journal_data, summary_data}

-- ---- the parts that a report has

abbrev pub edit_item : Edit → EditItem
edit_item (Drop e) = dropped (ends e)
edit_item (Keep e) = kept (ends e)
edit_item (Flip e f) = flipped (ends e) (ends f)

abbrev pub row_item : Row → RowItem
row_item (Half p q w) = half p q w
row_item (Three p w) = three p w
row_item (Cross e f w) = cross (ends e) (ends f) w
row_item (Cap e w) = cap (ends e) w

abbrev pub commit_item : Commit → CommitItem
commit_item c = record { caller = c.caller; seq = c.seq; edits = map edit_item c.edits }

abbrev pub solution_parts : List ℕ → List Pair → SolutionParts
solution_parts name pairs = record { name = name; pairs = map ends pairs }

abbrev pub certificate_parts : Certificate → ℕ → CertificateParts
certificate_parts C value = record { q = C.q; rows = map row_item C.rows; value = value }

abbrev pub journal_parts : List Pair → List Commit → JournalParts
journal_parts start J = record { start = map ends start; commits = map commit_item J }

-- the parts behind the instance
abbrev pub later_parts : Report → LaterParts
later_parts r = record {
  solution = solution_parts r.solution_name r.solution;
  certificate = certificate_parts r.certificate r.value;
  journal = journal_parts r.start r.commits;
  summary = r.summary;
}

-- ---- the text of a report: five lines, each with its LF

-- the value whose compact text a part is, on its line without the LF
abbrev pub part_data : Report → Part → Data
part_data r part.Instance = with_costs (map cost_item r.instance.costs) (instance_data r.instance.name (map coordinates r.instance.points))
part_data r part.Solution = solution_data r.solution_name (map ends r.solution)
part_data r part.Certificate = certificate_data (certificate_parts r.certificate r.value)
part_data r part.Journal = journal_data (journal_parts r.start r.commits)
part_data r part.Summary = summary_data r.summary

abbrev pub part_text : Report → Part → List ℕ
part_text r p = compact_text (part_data r p)

abbrev pub report_lines : Report → List Data
report_lines r = part_data r part.Instance ∷ part_data r part.Solution ∷ part_data r part.Certificate ∷ part_data r part.Journal ∷ part_data r part.Summary ∷ []

abbrev pub report_text : Report → List ℕ
report_text r = lines_text (report_lines r)

-- a summary has version 1 or 2, and in version 1 the cost is the number of edges
abbrev pub HasVersion : Summary → Type 0
HasVersion s = (s.version ≡ 2) ⊎ ((s.version ≡ 1) × (s.cost ≡ s.edges))

-- ---- the reading of a text

pub record FiveLines : Type 0 where
  pub first : List ℕ
  pub second : List ℕ
  pub third : List ℕ
  pub fourth : List ℕ
  pub fifth : List ℕ

-- the text has these lines and no others
abbrev pub HasLines : List ℕ → FiveLines → Type 0
HasLines bytes L = lines bytes ≡ L.first ∷ L.second ∷ L.third ∷ L.fourth ∷ L.fifth ∷ []

-- what the lines behind the first are read as, over n points
abbrev pub later_of : ℕ → FiveLines → Result LaterParts ReportFault
later_of n L = later_from n L.second L.third L.fourth L.fifth

-- the text has five lines, which are read as the report
pub record Gives (bytes : List ℕ) (r : Report) : Type 0 where
  pub lines : FiveLines
  pub cut : HasLines bytes lines
  pub instance : instances.IsRead (instance_from lines.first) (Ok r.instance)
  pub later : later_of (length r.instance.points) lines ≡ Ok (later_parts r)

-- the text has five lines, and the first is no instance, with this fault
pub record HasFirstFault (bytes : List ℕ) (fault : InstanceFault) : Type 0 where
  pub lines : FiveLines
  pub cut : HasLines bytes lines
  pub named : fault ≢ named.NoMemory
  pub first : instances.HasFault (instance_from lines.first) fault

-- the text has five lines, the first is an instance, and the first fault of the lines behind it is this one
pub record HasLaterFault (bytes : List ℕ) (fault : ReportFault) : Type 0 where
  pub lines : FiveLines
  pub cut : HasLines bytes lines
  pub instance : Instance
  pub read : instances.IsRead (instance_from lines.first) (Ok instance)
  pub accepted : AreAccepted instance.points
  pub later : later_of (length instance.points) lines ≡ Err fault

-- the fault of a text; want of memory says nothing
abbrev pub HasFault : List ℕ → ReportFault → Type 0
HasFault bytes (at.Lines c) = (length (lines bytes) ≡ c) × (c ≢ 5)
HasFault bytes (at.Instance fault) = HasFirstFault bytes fault
HasFault bytes at.NoSolutionName = HasLaterFault bytes at.NoSolutionName
HasFault bytes (at.Solution fault) = HasLaterFault bytes (at.Solution fault)
HasFault bytes (at.Certificate fault) = HasLaterFault bytes (at.Certificate fault)
HasFault bytes (at.Journal fault) = HasLaterFault bytes (at.Journal fault)
HasFault bytes (at.Summary fault) = HasLaterFault bytes (at.Summary fault)
HasFault bytes at.NoMemory = Unit {0}

-- What a text is answered with: the report, or the fault.
abbrev pub IsRead : List ℕ → Result Report ReportFault → Type 0
IsRead bytes (Ok report) = Gives bytes report
IsRead bytes (Err fault) = HasFault bytes fault

-- each fault comes exactly where the text has it, want of memory aside
abbrev pub IsExact : List ℕ → Result Report ReportFault → Type 0
IsExact bytes result = result ≢ Err at.NoMemory → (fault : ReportFault) → fault ≢ at.NoMemory → (result ≡ Err fault) ↔ HasFault bytes fault
