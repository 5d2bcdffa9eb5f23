-- A text has one fault or gives a report, and never both.
use Rattle.std.proofs.Common.{◌≡◌, ◌≢◌, ℕ, List, [], ◌∷◌, length, Result, Ok, Err, IfOk, inl, inr, refl, sym, ap, ◌∙◌, subst}
use Rattle.plane.specs.Accepted.{AreAccepted}
use Rattle.text_defs.specs.Instances.{instance_from}
use Rattle.text_defs.specs.Lines.{lines}
use Rattle.json_text.proofs.Laws.{err_same, ok_same, ok_err}
use Rattle.instance_io.specs.Refusal as instances
use Rattle.instance_io.specs.declared.instances.Instance.{Instance}
use Rattle.instance_io.specs.declared.instances.InstanceFault.{InstanceFault}
use Rattle.instance_io.specs.declared.instances.InstanceFault.TheVariants as first
use Rattle.instance_io.proofs.laws.Readings.{read_once, gives_no_fault}
use Rattle.report_io.specs.declared.report.Report.{Report}
use Rattle.report_io.specs.declared.faults.ReportFault.{ReportFault}
use Rattle.report_io.specs.declared.faults.ReportFault.TheVariants as at
use Rattle.report_io.specs.Parts.{LaterParts}
use Rattle.report_io.specs.Limits.{AreLaterWithin}
use Rattle.report_io.specs.Answers.{IsLaterKind, IsOr, IsRefusal, IsBehind}
use Rattle.report_io.proofs.laws.PartLimits.{AreLaterParts}
use Rattle.report_io.proofs.laws.PartsWithin.{later_from-within}
use Rattle.report_io.proofs.laws.Within.{told_later}
use Rattle.report_io.proofs.laws.ReportBack.{lines_once}
use Rattle.report_io.specs.Report.{FiveLines, HasLines, later_of, later_parts, Gives, HasFirstFault, HasLaterFault, HasFault, IsRead, IsExact}

-- ---- the faults of a text

pub has_later : (bytes : List ℕ) (f : ReportFault) → IsLaterKind f → HasLaterFault bytes f → HasFault bytes f
has_later bytes (at.Lines c) k h = absurd k
has_later bytes (at.Instance fault) k h = absurd k
has_later bytes at.NoSolutionName k h = h
has_later bytes (at.Solution fault) k h = h
has_later bytes (at.Certificate fault) k h = h
has_later bytes (at.Journal fault) k h = h
has_later bytes (at.Summary fault) k h = h
has_later bytes at.NoMemory k h = absurd k

not_five : (bytes : List ℕ) (c : ℕ) (L : FiveLines) → length (lines bytes) ≡ c → c ≢ 5 → HasLines bytes L → ⊥
not_five bytes c L h n cut = n (sym h ∙ ap length cut)

-- what is known of the first line
pub record IsFirst (bytes : List ℕ) (L : FiveLines) (I : Instance) : Type 0 where
  pub cut : HasLines bytes L
  pub read : instances.IsRead (instance_from L.first) (Ok I)
  pub accepted : AreAccepted I.points

first_fault : (bytes : List ℕ) (L : FiveLines) (I : Instance) (fault : InstanceFault) → IsFirst bytes L I → HasFirstFault bytes fault → ⊥
first_fault bytes L I fault h k =
    let same : k.lines ≡ L = lines_once bytes k.lines L k.cut h.cut in
    gives_no_fault (instance_from L.first) I.name I.points I.costs fault h.read h.accepted k.named (subst (λ (M : FiveLines). instances.HasFault (instance_from M.first) fault) same k.first)

later_fault : (bytes : List ℕ) (L : FiveLines) (I : Instance) (f : ReportFault) → IsFirst bytes L I → HasLaterFault bytes f → later_of (length I.points) L ≡ Err f
later_fault bytes L I f h k =
    let same : k.lines ≡ L = lines_once bytes k.lines L k.cut h.cut in
    let read : instances.IsRead (instance_from L.first) (Ok k.instance) = subst (λ (M : FiveLines). instances.IsRead (instance_from M.first) (Ok k.instance)) same k.read in
    let one : k.instance ≡ I = read_once (instance_from L.first) k.instance I read h.read in
    subst (λ (i : Instance). later_of (length i.points) L ≡ Err f) one (subst (λ (M : FiveLines). later_of (length k.instance.points) M ≡ Err f) same k.later)

-- behind an instance the fault is that of the later lines
behind_first : (bytes : List ℕ) (L : FiveLines) (I : Instance) (f : ReportFault) → IsFirst bytes L I → f ≢ at.NoMemory → HasFault bytes f → later_of (length I.points) L ≡ Err f
behind_first bytes L I (at.Lines c) h n k = absurd (not_five bytes c L k.0 k.1 h.cut)
behind_first bytes L I (at.Instance fault) h n k = absurd (first_fault bytes L I fault h k)
behind_first bytes L I at.NoSolutionName h n k = later_fault bytes L I at.NoSolutionName h k
behind_first bytes L I (at.Solution fault) h n k = later_fault bytes L I (at.Solution fault) h k
behind_first bytes L I (at.Certificate fault) h n k = later_fault bytes L I (at.Certificate fault) h k
behind_first bytes L I (at.Journal fault) h n k = later_fault bytes L I (at.Journal fault) h k
behind_first bytes L I (at.Summary fault) h n k = later_fault bytes L I (at.Summary fault) h k
behind_first bytes L I at.NoMemory h n k = absurd (n refl)

-- ---- exactness

exact_fault : (bytes : List ℕ) (f : ReportFault) → HasFault bytes f → ((g : ReportFault) → g ≢ at.NoMemory → HasFault bytes g → f ≡ g) → IsExact bytes (Err f)
exact_fault bytes f h once m g n = (λ e. subst (HasFault bytes) (sym (err_same e)) h, λ k. ap (λ y. Err y) (once g n k))

pub exact_no_memory : (bytes : List ℕ) → IsExact bytes (Err at.NoMemory)
exact_no_memory bytes m = absurd (m refl)

lines_fault_once : (bytes : List ℕ) (c : ℕ) → length (lines bytes) ≡ c → c ≢ 5 → (g : ReportFault) → g ≢ at.NoMemory → HasFault bytes g → at.Lines c ≡ g
lines_fault_once bytes c h k (at.Lines d) n f = ap at.Lines (sym h ∙ f.0)
lines_fault_once bytes c h k (at.Instance fault) n f = absurd (not_five bytes c f.lines h k f.cut)
lines_fault_once bytes c h k at.NoSolutionName n f = absurd (not_five bytes c f.lines h k f.cut)
lines_fault_once bytes c h k (at.Solution fault) n f = absurd (not_five bytes c f.lines h k f.cut)
lines_fault_once bytes c h k (at.Certificate fault) n f = absurd (not_five bytes c f.lines h k f.cut)
lines_fault_once bytes c h k (at.Journal fault) n f = absurd (not_five bytes c f.lines h k f.cut)
lines_fault_once bytes c h k (at.Summary fault) n f = absurd (not_five bytes c f.lines h k f.cut)
lines_fault_once bytes c h k at.NoMemory n f = absurd (n refl)

pub exact_lines : (bytes : List ℕ) (c : ℕ) → length (lines bytes) ≡ c → c ≢ 5 → IsExact bytes (Err (at.Lines c))
exact_lines bytes c h k = exact_fault bytes (at.Lines c) (h, k) (lines_fault_once bytes c h k)

-- the first line is no instance, with this fault alone
pub record IsFirstFault (bytes : List ℕ) (L : FiveLines) (fault : InstanceFault) : Type 0 where
  pub cut : HasLines bytes L
  pub named : fault ≢ first.NoMemory
  pub has : instances.HasFault (instance_from L.first) fault
  pub once : (g : InstanceFault) → g ≢ first.NoMemory → instances.HasFault (instance_from L.first) g → fault ≡ g

no_instance : (bytes : List ℕ) (L : FiveLines) (fault : InstanceFault) (f : ReportFault) → IsFirstFault bytes L fault → HasLaterFault bytes f → ⊥
no_instance bytes L fault f h k =
    let same : k.lines ≡ L = lines_once bytes k.lines L k.cut h.cut in
    let read : instances.IsRead (instance_from L.first) (Ok k.instance) = subst (λ (M : FiveLines). instances.IsRead (instance_from M.first) (Ok k.instance)) same k.read in
    gives_no_fault (instance_from L.first) k.instance.name k.instance.points k.instance.costs fault read k.accepted h.named h.has

first_fault_once : (bytes : List ℕ) (L : FiveLines) (fault : InstanceFault) → IsFirstFault bytes L fault → (g : ReportFault) → g ≢ at.NoMemory → HasFault bytes g → at.Instance fault ≡ g
first_fault_once bytes L fault h (at.Lines c) n k = absurd (not_five bytes c L k.0 k.1 h.cut)
first_fault_once bytes L fault h (at.Instance other) n k =
    let same : k.lines ≡ L = lines_once bytes k.lines L k.cut h.cut in
    ap at.Instance (h.once other k.named (subst (λ (M : FiveLines). instances.HasFault (instance_from M.first) other) same k.first))
first_fault_once bytes L fault h at.NoSolutionName n k = absurd (no_instance bytes L fault at.NoSolutionName h k)
first_fault_once bytes L fault h (at.Solution f) n k = absurd (no_instance bytes L fault (at.Solution f) h k)
first_fault_once bytes L fault h (at.Certificate f) n k = absurd (no_instance bytes L fault (at.Certificate f) h k)
first_fault_once bytes L fault h (at.Journal f) n k = absurd (no_instance bytes L fault (at.Journal f) h k)
first_fault_once bytes L fault h (at.Summary f) n k = absurd (no_instance bytes L fault (at.Summary f) h k)
first_fault_once bytes L fault h at.NoMemory n k = absurd (n refl)

pub has_first : (bytes : List ℕ) (L : FiveLines) (fault : InstanceFault) → IsFirstFault bytes L fault → HasFault bytes (at.Instance fault)
has_first bytes L fault h = record { lines = L; cut = h.cut; named = h.named; first = h.has }

pub exact_first : (bytes : List ℕ) (L : FiveLines) (fault : InstanceFault) → IsFirstFault bytes L fault → IsExact bytes (Err (at.Instance fault))
exact_first bytes L fault h = exact_fault bytes (at.Instance fault) (has_first bytes L fault h) (first_fault_once bytes L fault h)

pub has_behind : (bytes : List ℕ) (L : FiveLines) (I : Instance) (f : ReportFault) → IsFirst bytes L I → IsLaterKind f → later_of (length I.points) L ≡ Err f → HasFault bytes f
has_behind bytes L I f h k e =
    has_later bytes f k (record { lines = L; cut = h.cut; instance = I; read = h.read; accepted = h.accepted; later = e })

pub exact_behind : (bytes : List ℕ) (L : FiveLines) (I : Instance) (f : ReportFault) → IsFirst bytes L I → IsLaterKind f → later_of (length I.points) L ≡ Err f → IsExact bytes (Err f)
exact_behind bytes L I f h k e = exact_fault bytes f (has_behind bytes L I f h k e) (λ g n j. err_same (sym (behind_first bytes L I g h n j) ∙ e))

pub gives : (bytes : List ℕ) (L : FiveLines) (I : Instance) (r : Report) → IsFirst bytes L I → r.instance ≡ I → later_of (length I.points) L ≡ Ok (later_parts r) → Gives bytes r
gives bytes L I r h e k = record {
  lines = L;
  cut = h.cut;
  instance = subst (λ (i : Instance). instances.IsRead (instance_from L.first) (Ok i)) (sym e) h.read;
  later = subst (λ (i : Instance). later_of (length i.points) L ≡ Ok (later_parts r)) (sym e) k;
}

pub exact_report : (bytes : List ℕ) (L : FiveLines) (I : Instance) (r : Report) → IsFirst bytes L I → later_of (length I.points) L ≡ Ok (later_parts r) → IsExact bytes (Ok r)
exact_report bytes L I r h e m g n = (λ x. absurd (ok_err x), λ k. absurd (ok_err (sym e ∙ behind_first bytes L I g h n k)))

-- ---- how the whole text is answered

abbrev pub Answered : List ℕ → Result Report ReportFault → Type 0
Answered bytes result = IsRead bytes result × IsExact bytes result × IfOk result AreLaterWithin

no_memory : (bytes : List ℕ) (f : ReportFault) → f ≡ at.NoMemory → Answered bytes (Err f)
no_memory bytes f e = subst (λ g. Answered bytes (Err g)) (sym e) (tt, exact_no_memory bytes, tt)

pub lines_answer : (bytes : List ℕ) (count : ℕ) (f : ReportFault) → count ≡ length (lines bytes) → count ≢ 5 → IsOr (at.Lines count) f → Answered bytes (Err f)
lines_answer bytes count f h k (inl m) = no_memory bytes f m
lines_answer bytes count f h k (inr e) = subst (λ g. Answered bytes (Err g)) (sym e) ((sym h, k), exact_lines bytes count (sym h) k, tt)

pub first_answer : (bytes : List ℕ) (L : FiveLines) (fault : InstanceFault) (f : ReportFault) → HasLines bytes L → instances.HasFault (instance_from L.first) fault
    → instances.IsExact (instance_from L.first) (Err fault) → IsRefusal fault f → Answered bytes (Err f)
first_answer bytes L fault f cut has exact (inl m) = no_memory bytes f m.1
first_answer bytes L fault f cut has exact (inr n) =
    let alone : IsFirstFault bytes L fault = record {
      cut = cut;
      named = n.0;
      has = has;
      once = λ g m h. sym (err_same ((exact (λ e. n.0 (sym (err_same e))) g m).1 h));
    } in
    subst (λ g. Answered bytes (Err g)) (sym n.1) (has_first bytes L fault alone, exact_first bytes L fault alone, tt)

pub behind_answer : (bytes : List ℕ) (L : FiveLines) (I : Instance) (result : Result Report ReportFault) → HasLines bytes L → instances.IsRead (instance_from L.first) (Ok I)
    → IsBehind I L.second L.third L.fourth L.fifth result → Answered bytes result
behind_answer bytes L I (Ok r) cut read h =
    let is : IsFirst bytes L I = record { cut = cut; read = read; accepted = h.0 } in
    let parts : AreLaterParts (length r.instance.points) (later_parts r) =
    subst (λ (i : Instance). AreLaterParts (length i.points) (later_parts r)) (sym h.1) (later_from-within (length I.points) L.second L.third L.fourth L.fifth (later_parts r) h.2) in
    (gives bytes L I r is h.1 h.2, exact_report bytes L I r is h.2, told_later r parts)
behind_answer bytes L I (Err f) cut read (accepted, inl m) = no_memory bytes f m
behind_answer bytes L I (Err f) cut read (accepted, inr e) =
    let is : IsFirst bytes L I = record { cut = cut; read = read; accepted = accepted } in
    (has_behind bytes L I f is e.0 e.1, exact_behind bytes L I f is e.0 e.1, tt)
