-- The report of the parts of a run.
use Rattle.std.proofs.Common.{◌≡◌, ℕ, ◌+◌, ◌<◌, ◌≤◌, ◌^◌, List, length, inl, refl, sym, ◌∙◌, ap, subst, arith}
use Rattle.plane.specs.declared.coordinates.Point.{Point}
use Rattle.plane.specs.Accepted.{AreAccepted}
use Rattle.cost_defs.specs.Costs.{Costed, total}
use Rattle.solve_defs.specs.Solved.{IsSolved, IsManned}
use Rattle.instance_io.specs.declared.instances.Instance.{Instance}
use Rattle.report_io.specs.declared.report.Report.{Report}
use Rattle.report_io.specs.declared.summary.Summary.{Summary}
use Rattle.report_io.specs.Report.{HasVersion}
use Rattle.lower_bounds.specs.declared.bests.Search.{Search}
use Rattle.solver.specs.declared.solving.Solved.{Solved}
use Rattle.solver.specs.Solving.{IsSolvedBy}
use Rattle.solve_report.specs.Reports.{IsSummary}
use Rattle.solve_report.specs.Texts.{IsRunReport}
use Rattle.solve_report.proofs.laws.Headlines.{bound_low}

pub run_few : (S : List Point) (D : List Costed) (E : ℕ) (search : Search) (run : Solved) → IsSolvedBy S D E search run → length run.kept.items ≤ 15000
run_few S D E search run h = let a = h.few in let b = h.fewer in omega (arith, a, b)

pub run_short : (S : List Point) (D : List Costed) (E : ℕ) (search : Search) (run : Solved) → IsSolvedBy S D E search run → length run.journal.items < 2 ^ 32
run_short S D E search run h =
    let solved : IsSolved S D E run.start.items run.journal.items run.kept.items run.certificate = h.solved in
    let a = solved.manned.swept in
    let b = solved.manned.worked in
    omega (arith, a, b)

pub run_below : (S : List Point) (D : List Costed) (E : ℕ) (search : Search) (run : Solved) → AreAccepted S → IsSolvedBy S D E search run → run.bound ≤ total D run.kept.items
run_below S D E search run accepted h = bound_low S D E run.start.items run.journal.items run.kept.items run.certificate run.bound accepted h.solved h.bound

-- the report of the parts, and a copy of the name
pub run_report : (I : Instance) (E : ℕ) (search : Search) (run : Solved) (s : Summary) (copy : List ℕ) (r : Report) → IsSolvedBy I.points I.costs E search run → copy ≡ I.name
    → IsSummary I.costs E run.journal.items run.kept.items run.bound s
    → r ≡ record {
      instance = record { name = I.name; points = run.points; costs = I.costs };
      solution_name = copy;
      solution = run.kept.items;
      certificate = run.certificate;
      value = run.bound;
      start = run.start.items;
      commits = run.journal.items;
      summary = s;
    }
    → IsRunReport I E search.workers search.rounds search.seed r
run_report I E search run s copy r h name summary is =
    let make : List Point → Report = λ p. record {
      instance = record { name = I.name; points = p; costs = I.costs };
      solution_name = copy;
      solution = run.kept.items;
      certificate = run.certificate;
      value = run.bound;
      start = run.start.items;
      commits = run.journal.items;
      summary = s;
    } in
    subst (IsRunReport I E search.workers search.rounds search.seed) (sym (is ∙ ap make h.points)) (record {
      instance = refl;
      solved = record { name = name; solved = h.solved; value = h.bound; summary = summary };
      best = h.best;
      plain = λ none. record { start = h.start; journal = h.plain none };
      worked = λ some more. record { start = h.start; journal = h.worked some more };
      few = h.few;
      fewer = h.fewer;
    })

pub run_version : (I : Instance) (E workers rounds seed : ℕ) (r : Report) → IsRunReport I E workers rounds seed r → HasVersion r.summary
run_version I E workers rounds seed r h = inl h.solved.summary.version
