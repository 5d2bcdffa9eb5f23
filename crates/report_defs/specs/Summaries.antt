-- What the summary of a report says of it. (This project's own.)
use Rattle.std.specs.Prelude.{◌≡◌, ℕ, ◌+◌, ◌<◌, ◌↔◌, IsTrue, nat_eq, if◌then◌else◌, List, [], length, slice_index}
use Rattle.std.specs.List.{All}
use Rattle.cost_defs.specs.Costs.{total}
use Rattle.journal_defs.specs.declared.commit.Commit.{Commit}
use Rattle.journal_defs.specs.Journal.{made}
use Rattle.report_io.specs.declared.faults.Field.{Field}
use Rattle.report_io.specs.declared.faults.Field.TheVariants.{Bound, Commits, Cost, Edges, Gap, Optimal, Version}
use Rattle.report_io.specs.declared.report.Report.{Report}
use Rattle.report_io.specs.declared.summary.Summary.{Summary}

-- the number at each place is how many commits that caller has made, and no other caller has made any
abbrev pub AreCounted : List Commit → List ℕ → Type 0
AreCounted J counts = ((c : ℕ) → c < length counts → slice_index counts c ≡ made c J) × All (λ k. k.caller < length counts) J

-- what the bound is compared with: the cost, and in version 1 the number of pairs
abbrev pub compared : Summary → ℕ
compared s = if nat_eq s.version 1 then s.edges else s.cost

-- the field says of the report what it is
abbrev pub Holds : Report → Field → Type 0
Holds r Bound = r.summary.bound ≡ r.value
Holds r Commits = AreCounted r.commits r.summary.commits
Holds r Cost = r.summary.version ≡ 2 → r.summary.cost ≡ total r.instance.costs r.solution
Holds r Edges = r.summary.edges ≡ length r.solution
Holds r Gap = r.summary.gap + r.summary.bound ≡ compared r.summary
Holds r Optimal = IsTrue r.summary.optimal ↔ (compared r.summary ≡ r.summary.bound)
Holds r Version = r.summary.version ≡ 1 → r.instance.costs ≡ []

abbrev pub IsSummaryRight : Report → Type 0
IsSummaryRight r = (f : Field) → Holds r f

-- the place of a field in the order of the keys
abbrev pub place : Field → ℕ
place Bound = 0
place Commits = 1
place Cost = 2
place Edges = 3
place Gap = 4
place Optimal = 5
place Version = 6

-- f is the first field that is wrong
abbrev pub IsSummaryFault : Report → Field → Type 0
IsSummaryFault r f = (¬ Holds r f) × ((g : Field) → place g < place f → Holds r g)
