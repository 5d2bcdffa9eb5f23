-- For private clauses.
-- How a step of a reading is answered, and parts of written texts.
use Rattle.std.specs.Prelude.{◌≡◌, ◌≢◌, ◌⊎◌, ℕ, List, [], ◌∷◌, ◌++◌, map, length, Bool, true, false, codes, decimal, Result, Ok, Err, Vec}
use Rattle.std.specs.declared.alloc.Global.{Global}
use Rattle.serde_json.specs.Data.{Data}
use Rattle.serde_json.specs.View.{items_of}
use Rattle.serde_json.specs.Written.{items_text}
use Rattle.plane.specs.declared.segment.Pair.{Pair}
use Rattle.text_defs.specs.Lines.{lines}
use Rattle.text_defs.specs.Texts.{index_data}
use Rattle.instance_io.specs.Refusal.{ends}
use Rattle.journal_defs.specs.declared.commit.Commit.{Commit}
use Rattle.price_defs.specs.declared.row.Row.{Row}
use Rattle.report_io.specs.declared.faults.ReportFault.{ReportFault}
use Rattle.report_io.specs.declared.faults.ReportFault.TheVariants.{Lines, Instance, NoSolutionName, Solution, Certificate, Journal, Summary, NoMemory}
use Rattle.report_io.specs.declared.solution.NamedSolution.{NamedSolution}
use Rattle.report_io.specs.declared.certificate.Valued.{Valued}
use Rattle.report_io.specs.declared.journal.StartedJournal.{StartedJournal}
use Rattle.plane.specs.Accepted.{AreAccepted}
use Rattle.instance_io.specs.declared.instances.Instance as instance
use Rattle.instance_io.specs.declared.instances.InstanceFault.{InstanceFault}
use Rattle.instance_io.specs.declared.instances.InstanceFault.TheVariants as first
use Rattle.solution_io.specs.declared.fault.SolutionFault.{SolutionFault}
use Rattle.solution_io.specs.declared.fault.SolutionFault.TheVariants as named
use Rattle.report_io.specs.declared.summary.Summary as summary
use Rattle.report_io.specs.declared.report.Report.{Report}
use Rattle.report_io.specs.Reading.{later_from}
use Rattle.report_io.specs.Parts.{RowItem, CommitItem, SolutionParts, CertificateParts, JournalParts}
use Rattle.report_io.specs.Report.{row_item, commit_item, solution_parts, certificate_parts, journal_parts, later_parts}

-- the faults of the lines behind the first are called so
abbrev pub IsLaterKind : ReportFault → Type 0
IsLaterKind (Lines c) = ⊥
IsLaterKind (Instance fault) = ⊥
IsLaterKind NoSolutionName = Unit {0}
IsLaterKind (Solution fault) = Unit {0}
IsLaterKind (Certificate fault) = Unit {0}
IsLaterKind (Journal fault) = Unit {0}
IsLaterKind (Summary fault) = Unit {0}
IsLaterKind NoMemory = ⊥

-- what is found, as it is told, or the fault; or memory was not found
abbrev pub Answers : {X A : Type 0} → (X → A) → Result A ReportFault → Result X ReportFault → Type 0
Answers tell reading (Ok x) = reading ≡ Ok (tell x)
Answers tell reading (Err fault) = (fault ≡ NoMemory) ⊎ (IsLaterKind fault × (reading ≡ Err fault))

-- how the refusal of a solution is told
abbrev pub refusal : SolutionFault → ReportFault
refusal named.NotJson = Solution named.NotJson
refusal named.NoEdges = Solution named.NoEdges
refusal (named.TooManyEdges c) = Solution (named.TooManyEdges c)
refusal (named.BadEdge k) = Solution (named.BadEdge k)
refusal named.NoMemory = NoMemory

-- how the refusal of an instance is told
abbrev pub IsRefusal : InstanceFault → ReportFault → Type 0
IsRefusal fault told = ((fault ≡ first.NoMemory) × (told ≡ NoMemory)) ⊎ ((fault ≢ first.NoMemory) × (told ≡ Instance fault))

-- the fault, or want of memory
abbrev pub IsOr : (wanted fault : ReportFault) → Type 0
IsOr wanted fault = (fault ≡ NoMemory) ⊎ (fault ≡ wanted)

-- ---- how what is found is told

abbrev pub itself : {A : Type 0} → A → A
itself x = x

abbrev pub tell_rows : Vec Row Global → List RowItem
tell_rows v = map row_item v.items

abbrev pub tell_pairs : Vec Pair Global → List (ℕ × ℕ)
tell_pairs v = map ends v.items

abbrev pub tell_commits : Vec Commit Global → List CommitItem
tell_commits v = map commit_item v.items

abbrev pub tell_counts : Vec ℕ Global → List ℕ
tell_counts v = v.items

abbrev pub tell_solution : NamedSolution → SolutionParts
tell_solution s = solution_parts s.name s.pairs

abbrev pub tell_certificate : Valued → CertificateParts
tell_certificate v = certificate_parts v.certificate v.value

abbrev pub tell_journal : StartedJournal → JournalParts
tell_journal j = journal_parts j.start j.commits

-- ---- lines

-- the text has these five lines
abbrev pub AreLines : List ℕ → (first second third fourth fifth : List ℕ) → Type 0
AreLines bytes first second third fourth fifth = lines bytes ≡ first ∷ second ∷ third ∷ fourth ∷ fifth ∷ []

-- ---- parts of written texts

-- the numbers of an array behind what stands there, each after a comma, with the closing bracket
abbrev pub numbers_text : List ℕ → List ℕ
numbers_text numbers = items_text true (items_of (map index_data numbers))

-- the items of an array, with the closing bracket
abbrev pub list_text : List Data → List ℕ
list_text ds = items_text false (items_of ds)

-- of a summary's text, the cost where it is there
abbrev pub cost_text : Bool → ℕ → List ℕ
cost_text true cost = codes ",\"cost\":" ++ decimal cost
cost_text false cost = []

abbrev pub truth_text : Bool → List ℕ
truth_text true = codes "true"
truth_text false = codes "false"

-- what stands behind it
abbrev pub later_text : summary.Summary → List ℕ
later_text s =
    codes ",\"edges\":" ++ (decimal s.edges ++ (codes ",\"gap\":" ++ (decimal s.gap ++ (codes ",\"optimal\":" ++ (truth_text s.optimal ++ (codes ",\"version\":" ++ (decimal s.version ++ 125 ∷ [])))))))

-- ---- a report

-- the points of the instance are accepted, and the lines behind its own are read as the other parts of its report, or have this fault
abbrev pub IsBehind : instance.Instance → (second third fourth fifth : List ℕ) → Result Report ReportFault → Type 0
IsBehind I second third fourth fifth (Ok r) = AreAccepted I.points × (r.instance ≡ I) × (later_from (length I.points) second third fourth fifth ≡ Ok (later_parts r))
IsBehind I second third fourth fifth (Err fault) =
    AreAccepted I.points × ((fault ≡ NoMemory) ⊎ (IsLaterKind fault × (later_from (length I.points) second third fourth fifth ≡ Err fault)))
