-- The text of the report of a solved instance fixes the report.
use Rattle.std.proofs.Common.{◌≡◌, ◌↔◌, ℕ, ℤ, ◌+◌, ◌*◌, ◌<◌, ◌≤◌, ◌^◌, List, [], ◌∷◌, ◌++◌, length, map, Bool, true, false, IsTrue, IsUtf8, All, refl, sym, ap, ap₂, ◌∙◌, subst, arith}
use Rattle.std.proofs.lemmas.List.{flat_map_more, length-map}
use Rattle.std.proofs.lemmas.Bool.{false≢true}
use Rattle.plane.specs.declared.coordinates.Point.{Point}
use Rattle.plane.specs.declared.segment.Pair.{Pair}
use Rattle.cost_defs.specs.Costs.{Costed, total}
use Rattle.cost_defs.proofs.Laws.{total-le}
use Rattle.journal_defs.specs.declared.commit.Commit.{Commit}
use Rattle.serde_json.specs.Data.{Data}
use Rattle.text_defs.specs.Lines.{line_text, lines_text}
use Rattle.text_defs.proofs.laws.IsPlain.{Each, IsEdge, IsCosted, IsPlace}
use Rattle.text_defs.proofs.laws.Lists.{each}
use Rattle.instance_io.specs.Refusal.{coordinates, cost_item, ends}
use Rattle.instance_io.proofs.laws.Written.{near_places, costs_below}
use Rattle.report_io.specs.declared.report.Report.{Report}
use Rattle.report_io.specs.declared.report.Part.TheVariants as part
use Rattle.report_io.specs.declared.summary.Summary.{Summary}
use Rattle.report_io.specs.Report.{report_text, part_data, solution_parts, certificate_parts, journal_parts, commit_item, later_parts}
use Rattle.report_io.specs.Parts.{SolutionParts, CertificateParts, JournalParts, LaterParts}
use Rattle.report_io.proofs.laws.PartLimits.{AreCertificateParts, IsCommitItem}
use Rattle.report_io.proofs.laws.OneText.{FrontParts, AreFrontParts, front, one_text}
use Rattle.report_io.proofs.laws.ReportBack.{IsTyped}
use Rattle.report_io.proofs.laws.Within.{told_each, pairs_told, rows_told, commits_told}
use Rattle.report_io.proofs.laws.Once.{pair_once, map_once, commit_once, report_once}
use Rattle.solve_report.specs.Reports.{IsSummary, IsSolvedReport}
use Rattle.solve_report.specs.Same.{HasSmallLists}
use Rattle.solve_report.proofs.laws.Headlines.{solution_convex, bound_low}
use Rattle.solve_report.proofs.laws.Commits.{pairs_below, rows_indexed, commits_within}

-- what stands on the first four lines
abbrev front_of : Report → FrontParts
front_of r = record {
  name = r.instance.name;
  points = map coordinates r.instance.points;
  costs = map cost_item r.instance.costs;
  solution = solution_parts r.solution_name r.solution;
  certificate = certificate_parts r.certificate r.value;
  journal = journal_parts r.start r.commits;
}

front_text : (r : Report) → lines_text (front (front_of r)) ++ line_text (part_data r part.Summary) ≡ report_text r
unfolding lines_text
front_text r = flat_map_more line_text [] (front (front_of r)) (part_data r part.Summary)

low_value : (D : List Costed) (K : List Pair) (v : ℕ) → All (λ x. x.1 ≤ 1000) D → length K < 2 ^ 32 → v ≤ total D K → v < 2 ^ 63
low_value D K v cheap short low = let sum : total D K ≤ length K * 1000 = total-le D K cheap in omega (arith, sum, short, low)

front_within : (E : ℕ) (r : Report) → E ≤ 16 → IsTyped r → HasSmallLists r → IsSolvedReport E r → AreFrontParts (front_of r)
front_within E r few typed lists h =
    let S = r.instance.points in
    let count : length (map coordinates S) ≡ length S = length-map S coordinates in
    let many = typed.points.count.1 in
    let v : r.value ≤ total r.instance.costs r.solution = bound_low S r.instance.costs E r.start r.commits r.solution r.certificate r.value typed.points h.solved h.value in
    record {
      name = typed.name;
      small = omega (arith, count, many);
      points = each IsPlace (map coordinates S) (near_places S typed.points.near);
      costs = each (IsCosted (length (map coordinates S))) (map cost_item r.instance.costs)
          (subst (λ (m : ℕ). All (IsCosted m) (map cost_item r.instance.costs)) (sym count) (costs_below (length S) r.instance.costs typed.costs.within lists.costs));
      solution_name = typed.solution_name;
      pairs = subst (λ (m : ℕ). Each (IsEdge m) (map ends r.solution)) (sym count)
          (pairs_told (length S) r.solution (pairs_below S r.solution (solution_convex S r.instance.costs E r.start r.commits r.solution r.certificate typed.points h.solved).within));
      certificate = subst (λ (m : ℕ). AreCertificateParts m (certificate_parts r.certificate r.value)) (sym count) (record {
        q = h.solved.divisor;
        rows = rows_told S r.certificate.rows (rows_indexed S r.certificate.rows h.solved.valid.right) h.solved.light;
        value = low_value r.instance.costs r.solution r.value typed.costs.within lists.solution v;
      });
      commits = subst (λ (m : ℕ). Each (IsCommitItem m) (map commit_item r.commits)) (sym count)
          (commits_told (length S) r.commits (commits_within S r.instance.costs E r.start r.commits r.solution r.certificate few typed.points h.solved));
      start = subst (λ (m : ℕ). Each (IsEdge m) (map ends r.start)) (sym count) (pairs_told (length S) r.start (pairs_below S r.start h.solved.triangulation.within));
    }

same_truth : (a b : Bool) (P : Type 0) → IsTrue a ↔ P → IsTrue b ↔ P → a ≡ b
same_truth true true P h k = refl
same_truth false false P h k = refl
same_truth true false P h k = absurd (false≢true (k.1 (h.0 refl)))
same_truth false true P h k = absurd (false≢true (h.1 (k.0 refl)))

-- a journal, a solution and a bound have one summary
summary_one : (D : List Costed) (E : ℕ) (J : List Commit) (K : List Pair) (v : ℕ) (s t : Summary) → IsSummary D E J K v s → IsSummary D E J K v t → s ≡ t
summary_one D E J K v s t h k =
    let make : ℕ → List ℕ → ℕ → ℕ → ℕ → Bool → ℕ → Summary = λ b c m e g o n. record { bound = b; commits = c; cost = m; edges = e; gap = g; optimal = o; version = n } in
    let gap : s.gap ≡ t.gap = let a = h.gap in let b = k.gap in omega (arith, a, b) in
    ap₂ (λ (b : ℕ) (c : List ℕ). make b c s.cost s.edges s.gap s.optimal s.version) (h.bound ∙ sym k.bound) (h.commits ∙ sym k.commits)
    ∙ (ap₂ (λ (m e : ℕ). make t.bound t.commits m e s.gap s.optimal s.version) (h.cost ∙ sym k.cost) (h.edges ∙ sym k.edges)
    ∙ (ap₂ (λ (g : ℕ) (o : Bool). make t.bound t.commits t.cost t.edges g o s.version) gap (same_truth s.optimal t.optimal (total D K ≡ v) h.optimal k.optimal)
    ∙ ap (λ (n : ℕ). make t.bound t.commits t.cost t.edges t.gap t.optimal n) (h.version ∙ sym k.version)))

same_point : (p q : Point) → coordinates p ≡ coordinates q → p ≡ q
same_point p q h = ap₂ (λ (x y : ℤ). record { x = x; y = y }) (ap (λ (c : ℤ × ℤ). c.0) h) (ap (λ (c : ℤ × ℤ). c.1) h)

same_cost : (x y : Costed) → cost_item x ≡ cost_item y → x ≡ y
same_cost x y h = ap₂ (λ (e : Pair) (c : ℕ). (e, c)) (pair_once x.0 y.0 (ap (λ (i : (ℕ × ℕ) × ℕ). i.0) h)) (ap (λ (i : (ℕ × ℕ) × ℕ). i.1) h)

-- the first four lines and the summary fix the report
parts_one : (r s : Report) → front_of r ≡ front_of s → r.summary ≡ s.summary → r ≡ s
parts_one r s same summary =
    let name : r.instance.name ≡ s.instance.name = ap (λ (w : FrontParts). w.name) same in
    let points : r.instance.points ≡ s.instance.points = map_once coordinates same_point r.instance.points s.instance.points (ap (λ (w : FrontParts). w.points) same) in
    let costs : r.instance.costs ≡ s.instance.costs = map_once cost_item same_cost r.instance.costs s.instance.costs (ap (λ (w : FrontParts). w.costs) same) in
    let instance : r.instance ≡ s.instance =
    ap₂ (λ (n : List ℕ) (p : List Point). record { name = n; points = p; costs = r.instance.costs }) name points
    ∙ ap (λ (d : List Costed). record { name = s.instance.name; points = s.instance.points; costs = d }) costs in
    let make : SolutionParts → CertificateParts → JournalParts → Summary → LaterParts = λ a b c m. record { solution = a; certificate = b; journal = c; summary = m } in
    let later : later_parts r ≡ later_parts s =
    ap (λ (w : FrontParts). make w.solution w.certificate w.journal r.summary) same ∙ ap (make (solution_parts s.solution_name s.solution) (certificate_parts s.certificate s.value) (journal_parts s.start s.commits)) summary in
    report_once r s instance later

-- two reports of solved instances with one text are one
pub one_report : (E : ℕ) (r s : Report) → E ≤ 16 → IsTyped r → IsTyped s → HasSmallLists r → HasSmallLists s → IsSolvedReport E r → IsSolvedReport E s → report_text r ≡ report_text s → r ≡ s
one_report E r s few a b lists others h k text =
    let fronts : front_of r ≡ front_of s =
    one_text (front_of r) (front_of s) (line_text (part_data r part.Summary)) (line_text (part_data s part.Summary)) (front_within E r few a lists h) (front_within E s few b others k)
    (front_text r ∙ (text ∙ sym (front_text s))) in
    parts_one r s fronts (summaries fronts)
  where
    -- the summary is one of the other parts
    summaries : front_of r ≡ front_of s → r.summary ≡ s.summary
    summaries same =
        let costs : r.instance.costs ≡ s.instance.costs = map_once cost_item same_cost r.instance.costs s.instance.costs (ap (λ (w : FrontParts). w.costs) same) in
        let commits : r.commits ≡ s.commits = map_once commit_item commit_once r.commits s.commits (ap (λ (w : FrontParts). w.journal.commits) same) in
        let solution : r.solution ≡ s.solution = map_once ends pair_once r.solution s.solution (ap (λ (w : FrontParts). w.solution.pairs) same) in
        let value : r.value ≡ s.value = ap (λ (w : FrontParts). w.certificate.value) same in
        summary_one s.instance.costs E s.commits s.solution s.value r.summary s.summary
        (subst (λ (D : List Costed). IsSummary D E s.commits s.solution s.value r.summary) costs
        (subst (λ (J : List Commit). IsSummary r.instance.costs E J s.solution s.value r.summary) commits
        (subst (λ (K : List Pair). IsSummary r.instance.costs E r.commits K s.value r.summary) solution
        (subst (λ (v : ℕ). IsSummary r.instance.costs E r.commits r.solution v r.summary) value h.summary))))
        k.summary
