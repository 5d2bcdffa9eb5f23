-- The report of a solved instance reads back, and `check` answers Done to its text.
use Rattle.std.proofs.Common.{◌≡◌, ℕ, ◌+◌, ◌*◌, ◌<◌, ◌≤◌, ◌^◌, List, [], ◌∷◌, length, map, nat_eq, Ok, All, inl, sym, ap, ◌∙◌, subst, arith}
use Rattle.std.specs.List.{AllByRecursion, range_with_len}
use Rattle.std.proofs.lemmas.List.Elements.{All-from_recursion}
use Rattle.std.proofs.lemmas.List.Sums.{count_by-le-length}
use Rattle.std.proofs.lemmas.List.FromFn.{length-map-range_with_len}
use Rattle.plane.specs.declared.segment.Pair.{Pair}
use Rattle.plane.specs.Accepted.{AreAccepted}
use Rattle.cost_defs.specs.Costs.{Costed, total}
use Rattle.cost_defs.proofs.Laws.{total-le}
use Rattle.journal_defs.specs.declared.commit.Commit.{Commit}
use Rattle.journal_defs.specs.Journal.{made}
use Rattle.text_defs.specs.Instances.{instance_from}
use Rattle.text_defs.specs.Texts.{instance_text}
use Rattle.instance_io.specs.Refusal as instances
use Rattle.instance_io.specs.Refusal.{coordinates, cost_item}
use Rattle.report_io.specs.declared.report.Report.{Report}
use Rattle.report_io.specs.Limits.{IsSummaryWithin, AreLaterWithin}
use Rattle.report_io.specs.Report.{Gives, report_text}
use Rattle.report_io.proofs.laws.ReportBack.{IsTyped, report_back, gives_once}
use Rattle.report_defs.specs.Relation.{IsRight}
use Rattle.report_check.proofs.Laws.{right_is_valid}
use Rattle.report_answers.specs.declared.answer.Told.TheVariants as told
use Rattle.report_answers.specs.Lines.{valid_line}
use Rattle.report_answers.proofs.Laws.{report_not_refused}
use Rattle.solve_report.specs.Reports.{counts, IsSolvedReport}
use Rattle.solve_report.proofs.laws.Headlines.{solution_convex, bound_low}
use Rattle.solve_report.proofs.laws.Commits.{pairs_below, rows_indexed, commits_within}
use Rattle.solver_top.specs.declared.status.Verdict.{Verdict}
use Rattle.solver_top.specs.declared.status.Verdict.TheVariants.{Done}
use Rattle.solver_top.specs.Checking.{IsCheckAnswer}
use Rattle.solver_top.specs.Readable.{IsReadable}

low_total : (D : List Costed) (K : List Pair) → All (λ x. x.1 ≤ 1000) D → length K ≤ 20000 → total D K ≤ 20000000
low_total D K cheap few = let sum : total D K ≤ length K * 1000 = total-le D K cheap in omega (arith, sum, few)

all_mapped : (P : ℕ → Type 0) (f : ℕ → ℕ) (xs : List ℕ) → ((x : ℕ) → P (f x)) → AllByRecursion P (map f xs)
all_mapped P f [] h = tt
all_mapped P f (x ∷ xs) h = (h x, all_mapped P f xs h)

low_counts : (E : ℕ) (J : List Commit) → length J ≤ 94000 → All (λ c. c < 2 ^ 32) (counts E J)
low_counts E J few =
    All-from_recursion (λ c. c < 2 ^ 32) (counts E J)
    (all_mapped (λ c. c < 2 ^ 32) (λ c. made c J) (range_with_len 0 (E + 1))
    (λ c. let low : made c J ≤ length J = count_by-le-length (λ (k : Commit). nat_eq k.caller c) J in omega (arith, low, few)))

few_commits : (E : ℕ) (r : Report) → IsSolvedReport E r → length r.commits ≤ 94000
few_commits E r h = let a = h.solved.manned.swept in let b = h.solved.manned.worked in omega (arith, a, b)

summary_within : (E : ℕ) (r : Report) → E ≤ 16 → IsTyped r → IsReadable r → IsSolvedReport E r → IsSummaryWithin r.summary
summary_within E r low typed short h =
    let s = h.summary in
    let cost : total r.instance.costs r.solution ≤ 20000000 = low_total r.instance.costs r.solution typed.costs.within short.solution in
    let value : r.value ≤ total r.instance.costs r.solution =
    bound_low r.instance.points r.instance.costs E r.start r.commits r.solution r.certificate r.value typed.points h.solved h.value in
    let many : length r.summary.commits ≡ E + 1 = ap length s.commits ∙ length-map-range_with_len (λ c. made c r.commits) 0 (E + 1) in
    record {
      bound = let e = s.bound in omega (arith, e, value, cost);
      some = omega (arith, many);
      few = omega (arith, many, low);
      commits = subst (λ (l : List ℕ). All (λ c. c < 2 ^ 32) l) (sym s.commits) (low_counts E r.commits (few_commits E r h));
      cost = let e = s.cost in omega (arith, e, cost);
      edges = let e = s.edges in let few = short.solution in omega (arith, e, few);
      gap = let e = s.gap in omega (arith, e, cost);
      version = inl s.version;
    }

later_within : (E : ℕ) (r : Report) → E ≤ 16 → IsTyped r → IsReadable r → IsSolvedReport E r → AreLaterWithin r
later_within E r low typed short h =
    let S = r.instance.points in
    let D = r.instance.costs in
    let cost : total D r.solution ≤ 20000000 = low_total D r.solution typed.costs.within short.solution in
    let value : r.value ≤ total D r.solution = bound_low S D E r.start r.commits r.solution r.certificate r.value typed.points h.solved h.value in
    record {
      few = short.solution;
      solution = pairs_below S r.solution (solution_convex S D E r.start r.commits r.solution r.certificate typed.points h.solved).within;
      certificate = record {
        q = h.solved.divisor;
        indexed = rows_indexed S r.certificate.rows h.solved.valid.right;
        light = h.solved.light;
      };
      value = omega (arith, value, cost);
      journal = record {
        few = short.start;
        pairs = pairs_below S r.start h.solved.triangulation.within;
        count = let few = few_commits E r h in omega (arith, few);
        commits = commits_within S D E r.start r.commits r.solution r.certificate low typed.points h.solved;
      };
      summary = summary_within E r low typed short h;
    }

-- the instance's own law is a premise
pub reads_back : (E : ℕ) (r : Report) → E ≤ 16 → IsTyped r → IsReadable r
    → instances.IsRead (instance_from (instance_text (map cost_item r.instance.costs) r.instance.name (map coordinates r.instance.points))) (Ok r.instance)
    → IsSolvedReport E r → Gives (report_text r) r
reads_back E r low typed short first h = report_back r typed (record { instance = short.instance; later = later_within E r low typed short h }) first

-- a right report that its text gives is answered by Done
pub right_is_done : (r : Report) (verdict : Verdict) (text : List ℕ) → AreAccepted r.instance.points → Gives (report_text r) r → IsRight r → IsCheckAnswer (report_text r) verdict text
    → (verdict ≡ Done) × (text ≡ valid_line r.summary)
right_is_done r verdict text ok gives right (told.Yes, is, (s, (given, fine), sound, line)) =
    (is, line ∙ ap (λ (x : Report). valid_line x.summary) (gives_once (report_text r) s r given gives))
right_is_done r verdict text ok gives right (told.No, is, (s, v, (given, fine), never, judged, line)) =
    absurd (never (right_is_valid s v judged (subst IsRight (gives_once (report_text r) r s gives given) right)))
right_is_done r verdict text ok gives right (told.Refused, is, (fault, named, h, line)) = absurd (report_not_refused (report_text r) r fault ok gives named h)
