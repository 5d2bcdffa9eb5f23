-- What the lines of a report are read as, or their first fault. (This project's own.)
use Rattle.std.specs.Prelude.{ℕ, ◌-◌, ◌^◌, List, [], ◌∷◌, length, Bool, true, false, ◌&&◌, nat_le, if◌then◌else◌, Option, Some, None, is_some, option_map, option_and_then, unwrap_or, Result, Ok, Err, codes}
use Rattle.serde_json.specs.Data.{Data}
use Rattle.serde_json.specs.Find.{get, as_str, as_bool}
use Rattle.text_defs.specs.Reading.{json_reading}
use Rattle.text_defs.specs.Steps.{◌>>=◌, or_fault}
use Rattle.text_defs.specs.Fields.{list_of, array_at}
use Rattle.text_defs.specs.Items.{number_within, index, pair, is_tag, array_list, each_or_fault, all_of, unless_many}
use Rattle.text_defs.specs.Solutions as solution
use Rattle.solution_io.specs.declared.fault.SolutionFault.{SolutionFault}
use Rattle.solution_io.specs.declared.fault.SolutionFault.TheVariants as named
use Rattle.report_io.specs.declared.summary.Summary.{Summary}
use Rattle.report_io.specs.declared.faults.Field.{Field}
use Rattle.report_io.specs.declared.faults.Field.TheVariants as key
use Rattle.report_io.specs.declared.faults.CertLine.TheVariants as cert
use Rattle.report_io.specs.declared.faults.JournalLine.TheVariants as journal
use Rattle.report_io.specs.declared.faults.SummaryLine.TheVariants as sums
use Rattle.report_io.specs.declared.faults.ReportFault.{ReportFault}
use Rattle.report_io.specs.declared.faults.ReportFault.TheVariants as at
use Rattle.report_io.specs.Parts.{EditItem, dropped, kept, flipped, RowItem, half, three, cross, cap, CommitItem, SolutionParts, CertificateParts, JournalParts, LaterParts}

-- ---- edits and rows: arrays that begin with a tag

abbrev pub edit_in : ℕ → List Data → Option EditItem
edit_in n [] = None
edit_in n (t ∷ []) = None
edit_in n (t ∷ a ∷ []) = None
edit_in n (t ∷ a ∷ b ∷ []) =
    if is_tag (codes "d") t then option_map dropped (pair n a b) else (if is_tag (codes "k") t then option_map kept (pair n a b) else None)
edit_in n (t ∷ a ∷ b ∷ c ∷ []) = None
edit_in n (t ∷ a ∷ b ∷ c ∷ d ∷ []) = if is_tag (codes "f") t then option_and_then (λ e. option_map (flipped e) (pair n c d)) (pair n a b) else None
edit_in n (t ∷ a ∷ b ∷ c ∷ d ∷ e ∷ more) = None

-- the edit of points below n that a value is
abbrev pub edit_of : ℕ → Data → Option EditItem
edit_of n d = option_and_then (edit_in n) (array_list d)

abbrev pub most_weight : ℕ
most_weight = 1000000000000

abbrev pub weight : Data → Option ℕ
weight = number_within 0 most_weight

-- the two points of a half row may be one: they are no pair
abbrev pub row_in : ℕ → List Data → Option RowItem
row_in n [] = None
row_in n (t ∷ []) = None
row_in n (t ∷ a ∷ []) = None
row_in n (t ∷ a ∷ w ∷ []) = if is_tag (codes "t") t then option_and_then (λ p. option_map (three p) (weight w)) (index n a) else None
row_in n (t ∷ a ∷ b ∷ w ∷ []) =
    if is_tag (codes "h") t then option_and_then (λ p. option_and_then (λ q. option_map (half p q) (weight w)) (index n b)) (index n a)
    else (if is_tag (codes "c") t then option_and_then (λ e. option_map (cap e) (weight w)) (pair n a b) else None)
row_in n (t ∷ a ∷ b ∷ c ∷ w ∷ []) = None
row_in n (t ∷ a ∷ b ∷ c ∷ d ∷ w ∷ []) =
    if is_tag (codes "x") t then option_and_then (λ e. option_and_then (λ f. option_map (cross e f) (weight w)) (pair n c d)) (pair n a b) else None
row_in n (t ∷ a ∷ b ∷ c ∷ d ∷ e ∷ w ∷ more) = None

-- the row over points below n that a value is
abbrev pub row_of : ℕ → Data → Option RowItem
row_of n d = option_and_then (row_in n) (array_list d)

-- ---- line 2: a solution with the name of its instance

abbrev pub solution_fault : solution.Fault → SolutionFault
solution_fault solution.not_json = named.NotJson
solution_fault solution.no_edges = named.NoEdges
solution_fault (solution.too_many_edges c) = named.TooManyEdges c
solution_fault (solution.bad_edge k) = named.BadEdge k

abbrev pub under_solution : {A : Type 0} → Result A solution.Fault → Result A ReportFault
under_solution (Ok x) = Ok x
under_solution (Err fault) = Err (at.Solution (solution_fault fault))

unfoldable pub solution_in : ℕ → Data → Result SolutionParts ReportFault
solution_in n d = do
  name ← or_fault at.NoSolutionName (option_and_then as_str (get (codes "instance_name") d))
  pairs ← under_solution (solution.edges_in n d)
  Ok (record { name = name; pairs = pairs })

-- ---- line 3: a certificate

-- the greatest number that a reading has
abbrev pub most_64 : ℕ
most_64 = 2 ^ 63 - 1

abbrev pub most_divisor : ℕ
most_divisor = 1000000

abbrev pub row_items : ℕ → List Data → Result (List RowItem) ReportFault
row_items n items = each_or_fault (row_of n) (λ k. at.Certificate (cert.BadRow k)) items

unfoldable pub certificate_in : ℕ → Data → Result CertificateParts ReportFault
certificate_in n d = do
  q ← or_fault (at.Certificate cert.NoQ) (option_and_then (number_within 0 most_divisor) (get (codes "q") d))
  items ← or_fault (at.Certificate cert.NoRows) (array_at (codes "rows") d)
  rows ← row_items n (list_of items)
  value ← or_fault (at.Certificate cert.NoValue) (option_and_then (number_within 0 most_64) (get (codes "value") d))
  Ok (record { q = q; rows = rows; value = value })

-- ---- line 4: a journal

abbrev pub start_in : ℕ → List Data → Option (ℕ × ℕ)
start_in n [] = None
start_in n (a ∷ []) = None
start_in n (a ∷ b ∷ []) = pair n a b
start_in n (a ∷ b ∷ c ∷ more) = None

abbrev pub start_of : ℕ → Data → Option (ℕ × ℕ)
start_of n d = option_and_then (start_in n) (array_list d)

-- 1 to 8 edits
abbrev pub edits_in : ℕ → List Data → Option (List EditItem)
edits_in n items = if nat_le 1 (length items) && nat_le (length items) 8 then all_of (edit_of n) items else None

abbrev pub edits_of : ℕ → Data → Option (List EditItem)
edits_of n d = option_and_then (edits_in n) (array_list d)

abbrev pub most_callers : ℕ
most_callers = 16

abbrev pub most_32 : ℕ
most_32 = 2 ^ 32 - 1

-- a caller, the number of its commit, and the edits
abbrev pub commit_in : ℕ → List Data → Option CommitItem
commit_in n [] = None
commit_in n (a ∷ []) = None
commit_in n (a ∷ b ∷ []) = None
commit_in n (a ∷ b ∷ c ∷ []) =
    option_and_then (λ caller. option_and_then (λ seq. option_map (λ edits. record { caller = caller; seq = seq; edits = edits })
    (edits_of n c)) (number_within 1 most_32 b)) (number_within 0 most_callers a)
commit_in n (a ∷ b ∷ c ∷ d ∷ more) = None

abbrev pub commit_of : ℕ → Data → Option CommitItem
commit_of n d = option_and_then (commit_in n) (array_list d)

abbrev pub most_start : ℕ
most_start = 20000

abbrev pub most_commits : ℕ
most_commits = 200000

abbrev pub start_pairs : ℕ → List Data → Result (List (ℕ × ℕ)) ReportFault
start_pairs n items =
    unless_many most_start (λ c. at.Journal (journal.TooManyStart c)) items (each_or_fault (start_of n) (λ k. at.Journal (journal.BadStart k)) items)

abbrev pub commit_items : ℕ → List Data → Result (List CommitItem) ReportFault
commit_items n items =
    unless_many most_commits (λ c. at.Journal (journal.TooManyCommits c)) items (each_or_fault (commit_of n) (λ k. at.Journal (journal.BadCommit k)) items)

unfoldable pub journal_in : ℕ → Data → Result JournalParts ReportFault
journal_in n d = do
  pairs ← or_fault (at.Journal journal.NoStart) (array_at (codes "start") d)
  start ← start_pairs n (list_of pairs)
  items ← or_fault (at.Journal journal.NoCommits) (array_at (codes "commits") d)
  commits ← commit_items n (list_of items)
  Ok (record { start = start; commits = commits })

-- ---- line 5: a summary

-- 1 to 17 numbers
abbrev pub counts_in : List Data → Option (List ℕ)
counts_in items = if nat_le 1 (length items) && nat_le (length items) 17 then all_of (number_within 0 most_32) items else None

abbrev pub counts_of : Data → Option (List ℕ)
counts_of d = option_and_then counts_in (array_list d)

abbrev pub field : {A : Type 0} → Field → List ℕ → (Data → Option A) → Data → Result A ReportFault
field f name read d = or_fault (at.Summary (sums.BadField f)) (option_and_then read (get name d))

-- whether the version is the number 2
abbrev pub is_second : Data → Bool
is_second d = is_some (option_and_then (number_within 2 2) (get (codes "version") d))

-- the cost, where it is looked at
abbrev pub cost_in : Bool → Data → Result (Option ℕ) ReportFault
cost_in true d = field key.Cost (codes "cost") (number_within 0 most_64) d >>= (λ cost. Ok (Some cost))
cost_in false d = Ok None

-- In version 1 the cost is the number of edges.
unfoldable pub summary_in : Data → Result Summary ReportFault
summary_in d = do
  bound ← field key.Bound (codes "bound") (number_within 0 most_64) d
  counts ← field key.Commits (codes "commits") counts_of d
  cost ← cost_in (is_second d) d
  edges ← field key.Edges (codes "edges") (number_within 0 most_32) d
  gap ← field key.Gap (codes "gap") (number_within 0 most_64) d
  optimal ← field key.Optimal (codes "optimal") as_bool d
  version ← field key.Version (codes "version") (number_within 1 2) d
  Ok (record { bound = bound; commits = counts; cost = unwrap_or cost edges; edges = edges; gap = gap; optimal = optimal; version = version })

-- ---- the lines behind the instance, over n points

-- the value of a line, or the fault that it has none
abbrev pub line : ReportFault → List ℕ → Result Data ReportFault
line fault bytes = or_fault fault (json_reading bytes)

abbrev pub solution_from : ℕ → List ℕ → Result SolutionParts ReportFault
solution_from n bytes = line (at.Solution named.NotJson) bytes >>= solution_in n

abbrev pub certificate_from : ℕ → List ℕ → Result CertificateParts ReportFault
certificate_from n bytes = line (at.Certificate cert.NotJson) bytes >>= certificate_in n

abbrev pub journal_from : ℕ → List ℕ → Result JournalParts ReportFault
journal_from n bytes = line (at.Journal journal.NotJson) bytes >>= journal_in n

abbrev pub summary_from : List ℕ → Result Summary ReportFault
summary_from bytes = line (at.Summary sums.NotJson) bytes >>= summary_in

unfoldable pub later_from : ℕ → (second third fourth fifth : List ℕ) → Result LaterParts ReportFault
later_from n second third fourth fifth = do
  solution ← solution_from n second
  certificate ← certificate_from n third
  journal ← journal_from n fourth
  summary ← summary_from fifth
  Ok (record { solution = solution; certificate = certificate; journal = journal; summary = summary })
