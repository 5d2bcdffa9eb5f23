-- A text fixes the instance, the solution, the certificate and the journal of its heads four lines, with no limit on how many pairs, rows or commits
-- there are, and whatever its fifth line is.
use Rattle.std.proofs.Common.{◌≡◌, ℕ, ℤ, ◌^◌, ◌≤◌, List, [], ◌∷◌, ◌++◌, length, map, Some, Option, Ok, Result, option_and_then, codes, IsUtf8, refl, sym, ap, ap₂, ◌∙◌, subst}
use Rattle.serde_json.specs.Data.{Data, depth}
use Rattle.serde_json.specs.Find.{get, as_str}
use Rattle.serde_json.specs.View.{items_of}
use Rattle.text_defs.specs.Fields.{list_of, array_at}
use Rattle.text_defs.specs.Items.{natural, all_of}
use Rattle.text_defs.specs.Instances.{points_in}
use Rattle.text_defs.specs.Costs.{CostItem, cost_of}
use Rattle.text_defs.specs.Solutions.{edge_of}
use Rattle.text_defs.specs.Lines.{lines_text}
use Rattle.text_defs.specs.Texts.{edge_data, cost_data, solution_data, instance_data, with_costs}
use Rattle.text_defs.proofs.laws.IsPlain.{IsPlain, Each, IsEdge, IsCosted, IsPlace}
use Rattle.text_defs.proofs.laws.Lists.{list_of-items_of, heads, tails}
use Rattle.text_defs.proofs.laws.Lines.{one_front}
use Rattle.text_defs.proofs.laws.Costs.{cost_back, with_costs-plain, with_costs-depth, points_in-with_costs}
use Rattle.text_defs.proofs.laws.Instances.{instance_plain, instance_shallow, points_in-instance_data}
use Rattle.text_defs.proofs.laws.Solutions.{solution_plain, solution_shallow, edge_back}
use Rattle.report_io.specs.Parts.{CommitItem, RowItem, SolutionParts, CertificateParts, JournalParts}
use Rattle.report_io.specs.Reading.{row_of, start_of, commit_of}
use Rattle.report_io.specs.Texts.{row_data, commit_data, start_data, certificate_data, journal_data}
use Rattle.report_io.proofs.laws.PartLimits.{IsRowItem, IsCommitItem, AreCertificateParts}
use Rattle.report_io.proofs.laws.PartsBack.{all_back, row_back, start_back, commit_back}
use Rattle.report_io.proofs.laws.PartsPlain.{certificate_plain, certificate_shallow, journal_plain, journal_shallow}
use Rattle.std.proofs.lemmas.Option.{same_Some}

-- what stands on the heads four lines
pub record FrontParts : Type 0 where
  pub name : List ℕ
  pub points : List (ℤ × ℤ)
  pub costs : List CostItem
  pub solution : SolutionParts
  pub certificate : CertificateParts
  pub journal : JournalParts

pub record AreFrontParts (w : FrontParts) : Type 0 where
  pub name : IsUtf8 w.name
  pub small : length w.points ≤ 2 ^ 63
  pub points : Each IsPlace w.points
  pub costs : Each (IsCosted (length w.points)) w.costs
  pub solution_name : IsUtf8 w.solution.name
  pub pairs : Each (IsEdge (length w.points)) w.solution.pairs
  pub certificate : AreCertificateParts (length w.points) w.certificate
  pub commits : Each (IsCommitItem (length w.points)) w.journal.commits
  pub start : Each (IsEdge (length w.points)) w.journal.start

abbrev pub front : FrontParts → List Data
front w = with_costs w.costs (instance_data w.name w.points) ∷ solution_data w.solution.name w.solution.pairs ∷ certificate_data w.certificate ∷ journal_data w.journal ∷ []

front_lines : (w : FrontParts) → AreFrontParts w → Each (λ d. IsPlain d × (depth d ≤ 64)) (front w)
front_lines w h =
    let n = length w.points in (
      (with_costs-plain n w.costs w.name w.points h.small h.costs (instance_plain w.name w.points h.name h.small h.points), with_costs-depth w.costs w.name w.points (instance_shallow w.name w.points)),
      (
        (solution_plain n w.solution.name w.solution.pairs h.small h.pairs h.solution_name, solution_shallow w.solution.name w.solution.pairs),
        (
          (certificate_plain n h.small w.certificate h.certificate, certificate_shallow w.certificate),
          ((journal_plain n h.small w.journal h.commits h.start, journal_shallow w.journal), tt),
        ),
      ),
    )

ok_same : {A F : Type 0} (x y : A) → ◌≡◌ {A = Result A F} (Ok x) (Ok y) → x ≡ y
ok_same x y e = cc

-- items under one key fix their list
items_fix : {A : Type 0} (P : A → Type 0) (read : Data → Option A) (tell : A → Data) → ((x : A) → P x → read (tell x) ≡ Some x) → (xs ys : List A) → Each P xs → Each P ys
    → Some (items_of (map tell xs)) ≡ Some (items_of (map tell ys)) → xs ≡ ys
items_fix P read tell back xs ys h k e =
    let l : map tell xs ≡ map tell ys = sym (list_of-items_of (map tell xs)) ∙ (ap list_of (same_Some _ _ e) ∙ list_of-items_of (map tell ys)) in
    same_Some xs ys (sym (all_back P read tell xs back h) ∙ (ap (all_of read) l ∙ all_back P read tell ys back k))

certificate_fix : (n : ℕ) (c d : CertificateParts) → AreCertificateParts n c → AreCertificateParts n d → certificate_data c ≡ certificate_data d → c ≡ d
certificate_fix n c d h k e =
    let q : c.q ≡ d.q = same_Some _ _ (ap (λ x. option_and_then natural (get (codes "q") x)) e) in
    let v : c.value ≡ d.value = same_Some _ _ (ap (λ x. option_and_then natural (get (codes "value") x)) e) in
    let r : c.rows ≡ d.rows = items_fix (IsRowItem n) (row_of n) row_data (row_back n) c.rows d.rows h.rows k.rows (ap (array_at (codes "rows")) e) in
    ap₂ (λ (a b : ℕ). record { q = a; rows = c.rows; value = b }) q v ∙ ap (λ l. record { q = d.q; rows = l; value = d.value }) r

journal_fix : (n : ℕ) (c d : JournalParts) → Each (IsCommitItem n) c.commits → Each (IsCommitItem n) d.commits → Each (IsEdge n) c.start → Each (IsEdge n) d.start → journal_data c ≡ journal_data d → c ≡ d
journal_fix n c d h k i j e =
    let r : c.commits ≡ d.commits = items_fix (IsCommitItem n) (commit_of n) commit_data (commit_back n) c.commits d.commits h k (ap (array_at (codes "commits")) e) in
    let s : c.start ≡ d.start = items_fix (IsEdge n) (start_of n) start_data (start_back n) c.start d.start i j (ap (array_at (codes "start")) e) in
    ap₂ (λ (a : List (ℕ × ℕ)) (b : List CommitItem). record { start = a; commits = b }) s r

solution_fix : (n : ℕ) (s t : SolutionParts) → n ≤ 2 ^ 63 → Each (IsEdge n) s.pairs → Each (IsEdge n) t.pairs → solution_data s.name s.pairs ≡ solution_data t.name t.pairs → s ≡ t
solution_fix n s t small h k e =
    let name : s.name ≡ t.name = same_Some _ _ (ap (λ x. option_and_then as_str (get (codes "instance_name") x)) e) in
    let pairs : s.pairs ≡ t.pairs = items_fix (IsEdge n) (edge_of n) edge_data (λ x g. edge_back n x.0 x.1 small g) s.pairs t.pairs h k (ap (array_at (codes "edges")) e) in
    ap₂ (λ (a : List ℕ) (b : List (ℕ × ℕ)). record { name = a; pairs = b }) name pairs

name_under : (D : List CostItem) (name : List ℕ) (points : List (ℤ × ℤ)) → option_and_then as_str (get (codes "name") (with_costs D (instance_data name points))) ≡ Some name
name_under [] name points = refl
name_under (x ∷ D) name points = refl

costs_fix : (n : ℕ) → n ≤ 2 ^ 63 → (D F : List CostItem) (name name2 : List ℕ) (points points2 : List (ℤ × ℤ)) → Each (IsCosted n) D → Each (IsCosted n) F
    → array_at (codes "costs") (with_costs D (instance_data name points)) ≡ array_at (codes "costs") (with_costs F (instance_data name2 points2)) → D ≡ F
costs_fix n small [] [] name name2 points points2 h k e = refl
costs_fix n small [] (y ∷ F) name name2 points points2 h k e = absurd (cc)
costs_fix n small (x ∷ D) [] name name2 points points2 h k e = absurd (cc)
costs_fix n small (x ∷ D) (y ∷ F) name name2 points points2 h k e = items_fix (IsCosted n) (cost_of n) cost_data (λ x g. cost_back n x small g) (x ∷ D) (y ∷ F) h k e

-- Two different lists of parts never have one text.
pub one_text : (w v : FrontParts) (last more : List ℕ) → AreFrontParts w → AreFrontParts v → lines_text (front w) ++ last ≡ lines_text (front v) ++ more → w ≡ v
one_text w v last more h k e =
    let ds = one_front (front w) (front v) last more refl (front_lines w h) (front_lines v k) e in
    let i = heads _ _ _ _ ds in
    let s = heads _ _ _ _ (tails _ _ _ _ ds) in
    let c = heads _ _ _ _ (tails _ _ _ _ (tails _ _ _ _ ds)) in
    let j = heads _ _ _ _ (tails _ _ _ _ (tails _ _ _ _ (tails _ _ _ _ ds))) in
    let name : w.name ≡ v.name = same_Some _ _ (sym (name_under w.costs w.name w.points) ∙ (ap (λ x. option_and_then as_str (get (codes "name") x)) i ∙ name_under v.costs v.name v.points)) in
    let points : w.points ≡ v.points = ok_same _ _ (sym (points_in-with_costs w.costs w.name w.points ∙ points_in-instance_data w.name w.points h.points h.small) ∙ (ap points_in i ∙ (points_in-with_costs v.costs v.name v.points ∙ points_in-instance_data v.name v.points k.points k.small))) in
    let n = length w.points in
    let m : length v.points ≡ n = ap length (sym points) in
    let costs : w.costs ≡ v.costs = costs_fix n h.small w.costs v.costs w.name v.name w.points v.points h.costs (subst (λ n. Each (IsCosted n) v.costs) m k.costs) (ap (array_at (codes "costs")) i) in
    let solution : w.solution ≡ v.solution = solution_fix n w.solution v.solution h.small h.pairs (subst (λ n. Each (IsEdge n) v.solution.pairs) m k.pairs) s in
    let cert : w.certificate ≡ v.certificate = certificate_fix n w.certificate v.certificate h.certificate (subst (λ n. AreCertificateParts n v.certificate) m k.certificate) c in
    let jour : w.journal ≡ v.journal = journal_fix n w.journal v.journal h.commits (subst (λ n. Each (IsCommitItem n) v.journal.commits) m k.commits) h.start (subst (λ n. Each (IsEdge n) v.journal.start) m k.start) j in
    ap₂ (λ (a : List ℕ) (b : List (ℤ × ℤ)). record { name = a; points = b; costs = w.costs; solution = w.solution; certificate = w.certificate; journal = w.journal }) name points
    ∙ (ap₂ (λ (a : SolutionParts) (b : CertificateParts). record { name = v.name; points = v.points; costs = w.costs; solution = a; certificate = b; journal = w.journal }) solution cert
    ∙ ap₂ (λ (c : List CostItem) (a : JournalParts). record { name = v.name; points = v.points; costs = c; solution = v.solution; certificate = v.certificate; journal = a }) costs jour)
