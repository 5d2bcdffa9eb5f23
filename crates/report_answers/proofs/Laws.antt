-- A text that is a report isn't refused, nor one with enough commits called too short.
use Rattle.std.proofs.Common.{◌≡◌, ◌≢◌, ℕ, ◌<◌, ◌≤◌, arith, List, length, Ok, sym, ◌∙◌, ap, subst, refl}
use Rattle.plane.specs.Accepted.{AreAccepted}
use Rattle.text_defs.specs.Instances.{instance_from}
use Rattle.text_defs.specs.Lines.{lines}
use Rattle.json_text.proofs.Laws.{ok_err}
use Rattle.instance_io.specs.declared.instances.Instance.{Instance}
use Rattle.instance_io.specs.Refusal as instances
use Rattle.instance_io.proofs.laws.Readings.{gives_no_fault, read_once}
use Rattle.report_io.specs.declared.faults.ReportFault.{ReportFault}
use Rattle.report_io.specs.declared.faults.ReportFault.TheVariants as at
use Rattle.report_io.specs.declared.report.Report.{Report}
use Rattle.report_io.specs.Report.{FiveLines, Gives, HasLaterFault, HasFault, later_of, later_parts}
use Rattle.report_io.proofs.laws.ReportBack.{lines_once, gives_once}

no_later : (bytes : List ℕ) (r : Report) (fault : ReportFault) → Gives bytes r → HasLaterFault bytes fault → ⊥
no_later bytes r fault g h =
    let same : g.lines ≡ h.lines = lines_once bytes g.lines h.lines g.cut h.cut in
    let one : r.instance ≡ h.instance = read_once (instance_from h.lines.first) r.instance h.instance
    (subst (λ (L : FiveLines). instances.IsRead (instance_from L.first) (Ok r.instance)) same g.instance) h.read in
    let later : later_of (length h.instance.points) h.lines ≡ Ok (later_parts r) =
    subst (λ (I : Instance). later_of (length I.points) h.lines ≡ Ok (later_parts r)) one (subst (λ (L : FiveLines). later_of (length r.instance.points) L ≡ Ok (later_parts r)) same g.later) in
    ok_err (sym later ∙ h.later)

pub report_not_refused : (bytes : List ℕ) (r : Report) (fault : ReportFault) → AreAccepted r.instance.points → Gives bytes r → fault ≢ at.NoMemory → HasFault bytes fault → ⊥
report_not_refused bytes r (at.Lines c) ok g named h = h.1 (let e : length (lines bytes) ≡ 5 = ap length g.cut in sym h.0 ∙ e)
report_not_refused bytes r (at.Instance f) ok g named h =
    let same : g.lines ≡ h.lines = lines_once bytes g.lines h.lines g.cut h.cut in
    gives_no_fault (instance_from h.lines.first) r.instance.name r.instance.points r.instance.costs f
    (subst (λ (L : FiveLines). instances.IsRead (instance_from L.first) (Ok r.instance)) same g.instance) ok h.named h.first
report_not_refused bytes r at.NoSolutionName ok g named h = no_later bytes r at.NoSolutionName g h
report_not_refused bytes r (at.Solution f) ok g named h = no_later bytes r (at.Solution f) g h
report_not_refused bytes r (at.Certificate f) ok g named h = no_later bytes r (at.Certificate f) g h
report_not_refused bytes r (at.Journal f) ok g named h = no_later bytes r (at.Journal f) g h
report_not_refused bytes r (at.Summary f) ok g named h = no_later bytes r (at.Summary f) g h
report_not_refused bytes r at.NoMemory ok g named h = named refl

-- a report has as many commits as it has
pub not_too_late : (bytes : List ℕ) (r s : Report) (k : ℕ) → Gives bytes r → Gives bytes s → k ≤ length r.commits → length s.commits < k → ⊥
not_too_late bytes r s k g h far late =
    let same : length r.commits ≡ length s.commits = ap (λ (x : Report). length x.commits) (gives_once bytes r s g h) in
    omega (arith, same, far, late)
