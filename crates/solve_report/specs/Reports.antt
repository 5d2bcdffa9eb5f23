-- The report of a solved instance. (This project's own.)
use Rattle.std.specs.Prelude.{◌≡◌, ◌↔◌, ℕ, ◌+◌, List, map, length, IsTrue}
use Rattle.std.specs.List.{range_with_len}
use Rattle.plane.specs.declared.segment.Pair.{Pair}
use Rattle.cost_defs.specs.Costs.{Costed, total}
use Rattle.journal_defs.specs.declared.commit.Commit.{Commit}
use Rattle.journal_defs.specs.Journal.{made}
use Rattle.search_defs.specs.Best.{IsBest}
use Rattle.solve_defs.specs.PlainRun.{IsSweepJournal}
use Rattle.solve_defs.specs.Solved.{IsBound, IsSolved}
use Rattle.run_defs.specs.WorkedRun.{IsWorkedJournal}
use Rattle.triangulate.specs.SweepSet.{IsSweepSet}
use Rattle.report_io.specs.declared.report.Report.{Report}
use Rattle.report_io.specs.declared.summary.Summary.{Summary}

-- how many commits the callers 0 to E have made, one after the other
abbrev pub counts : (E : ℕ) → List Commit → List ℕ
counts E J = map (λ caller. made caller J) (range_with_len 0 (E + 1))

-- what the summary says of a journal, a solution and a bound
pub record IsSummary (D : List Costed) (E : ℕ) (J : List Commit) (K : List Pair) (v : ℕ) (s : Summary) : Type 0 where
  pub bound : s.bound ≡ v
  pub commits : s.commits ≡ counts E J
  pub cost : s.cost ≡ total D K
  pub edges : s.edges ≡ length K
  pub gap : s.gap + v ≡ total D K
  pub optimal : IsTrue s.optimal ↔ (total D K ≡ v)
  pub version : s.version ≡ 2

-- the report is of one solved instance, with E edit workers: its start, journal, solution and certificate are one, and
-- value and summary say of them what is so
pub record IsSolvedReport (E : ℕ) (r : Report) : Type 0 where
  pub name : r.solution_name ≡ r.instance.name
  pub solved : IsSolved r.instance.points r.instance.costs E r.start r.commits r.solution r.certificate
  pub value : IsBound r.instance.points r.instance.costs r.certificate r.value
  pub summary : IsSummary r.instance.costs E r.commits r.solution r.value r.summary

-- its certificate is the best that so many bound workers find
abbrev pub HasBest : (workers rounds seed : ℕ) → Report → Type 0
HasBest workers rounds seed r = IsBest r.instance.points r.instance.costs workers rounds seed r.certificate

-- without edit workers the start is all sweep pairs, and the journal their sweep alone
pub record IsPlainReport (r : Report) : Type 0 where
  pub start : IsSweepSet r.instance.points r.start
  pub journal : IsSweepJournal r.instance.points r.start r.commits

-- with E edit workers the start is all sweep pairs, and the journal their sweep, the workers' commits and another sweep
pub record IsWorkedReport (E rounds seed : ℕ) (r : Report) : Type 0 where
  pub start : IsSweepSet r.instance.points r.start
  pub journal : IsWorkedJournal r.instance.points r.instance.costs E rounds seed r.start r.commits
