-- The parts of a report by the ends of their pairs fix the report.
use Rattle.std.proofs.Common.{◌≡◌, ℕ, List, [], ◌∷◌, map, Result, Ok, refl, sym, ap, ap₂, ◌∙◌, subst, arith}
use Rattle.plane.specs.declared.segment.Pair.{Pair}
use Rattle.plane.proofs.laws.Pairs.{pair_same}
use Rattle.journal_defs.specs.declared.edit.Edit.{Edit}
use Rattle.journal_defs.specs.declared.edit.Edit.TheVariants.{Drop, Keep, Flip}
use Rattle.journal_defs.specs.declared.commit.Commit.{Commit}
use Rattle.price_defs.specs.declared.row.Row.{Row}
use Rattle.price_defs.specs.declared.row.Row.TheVariants.{Half, Three, Cross, Cap}
use Rattle.price_defs.specs.declared.row.Certificate.{Certificate}
use Rattle.instance_io.specs.Refusal.{ends}
use Rattle.instance_io.specs.declared.instances.Instance.{Instance}
use Rattle.report_io.specs.declared.faults.ReportFault.{ReportFault}
use Rattle.report_io.specs.declared.report.Report.{Report}
use Rattle.report_io.specs.declared.summary.Summary.{Summary}
use Rattle.report_io.specs.Parts.{EditItem, dropped, kept, flipped, RowItem, half, three, cross, cap, CommitItem, LaterParts}
use Rattle.report_io.specs.Report.{edit_item, row_item, commit_item, later_parts}
use Rattle.text_defs.proofs.laws.Lists.{heads, tails}

pub pair_once : (e f : Pair) → ends e ≡ ends f → e ≡ f
pair_once e f h = pair_same e f (ap (λ (p : ℕ × ℕ). p.0) h) (ap (λ (p : ℕ × ℕ). p.1) h)

pub map_once : {X A : Type 0} (f : X → A) → ((x y : X) → f x ≡ f y → x ≡ y) → (xs ys : List X) → map f xs ≡ map f ys → xs ≡ ys
map_once f once [] [] h = refl
map_once f once [] (y ∷ ys) h = absurd (cc)
map_once f once (x ∷ xs) [] h = absurd (cc)
map_once f once (x ∷ xs) (y ∷ ys) h =
    ap₂ (λ (a : _) (l : List _). a ∷ l) (once x y (heads (f x) (f y) (map f xs) (map f ys) h)) (map_once f once xs ys (tails (f x) (f y) (map f xs) (map f ys) h))

dropped_same : (e f : ℕ × ℕ) → dropped e ≡ dropped f → e ≡ f
dropped_same e f h = cc

kept_same : (e f : ℕ × ℕ) → kept e ≡ kept f → e ≡ f
kept_same e f h = cc

flipped_same : (e f g h : ℕ × ℕ) → flipped e f ≡ flipped g h → (e ≡ g) × (f ≡ h)
flipped_same e f g h s = ((let t : e ≡ g = cc in t), (let t : f ≡ h = cc in t))

pub edit_once : (e f : Edit) → edit_item e ≡ edit_item f → e ≡ f
edit_once (Drop e) (Drop f) h = ap Drop (pair_once e f (dropped_same (ends e) (ends f) h))
edit_once (Drop e) (Keep f) h = absurd (cc)
edit_once (Drop e) (Flip f g) h = absurd (cc)
edit_once (Keep e) (Drop f) h = absurd (cc)
edit_once (Keep e) (Keep f) h = ap Keep (pair_once e f (kept_same (ends e) (ends f) h))
edit_once (Keep e) (Flip f g) h = absurd (cc)
edit_once (Flip e x) (Drop f) h = absurd (cc)
edit_once (Flip e x) (Keep f) h = absurd (cc)
edit_once (Flip e x) (Flip f y) h =
    let same = flipped_same (ends e) (ends x) (ends f) (ends y) h in
    ap₂ (λ (a b : Pair). Flip a b) (pair_once e f same.0) (pair_once x y same.1)

cross_same : (e f g h : ℕ × ℕ) (w v : ℕ) → cross e f w ≡ cross g h v → (e ≡ g) × (f ≡ h) × (w ≡ v)
cross_same e f g h w v s = ((let t : e ≡ g = cc in t), (let t : f ≡ h = cc in t), (let t : w ≡ v = cc in t))

cap_same : (e g : ℕ × ℕ) (w v : ℕ) → cap e w ≡ cap g v → (e ≡ g) × (w ≡ v)
cap_same e g w v s = ((let t : e ≡ g = cc in t), (let t : w ≡ v = cc in t))

half_same : (p q w a b v : ℕ) → half p q w ≡ half a b v → (p ≡ a) × (q ≡ b) × (w ≡ v)
half_same p q w a b v s = ((let t : p ≡ a = cc in t), (let t : q ≡ b = cc in t), (let t : w ≡ v = cc in t))

three_same : (p w a v : ℕ) → three p w ≡ three a v → (p ≡ a) × (w ≡ v)
three_same p w a v s = ((let t : p ≡ a = cc in t), (let t : w ≡ v = cc in t))

pub row_once : (r s : Row) → row_item r ≡ row_item s → r ≡ s
row_once (Half p q w) (Half a b v) h =
    let same = half_same p q w a b v h in
    ap₂ (λ (x y : ℕ). Half x y w) same.0 same.1 ∙ ap (λ x. Half a b x) same.2
row_once (Half p q w) (Three a v) h = absurd (cc)
row_once (Half p q w) (Cross e f v) h = absurd (cc)
row_once (Half p q w) (Cap e v) h = absurd (cc)
row_once (Three p w) (Half a b v) h = absurd (cc)
row_once (Three p w) (Three a v) h = let same = three_same p w a v h in ap₂ (λ (x y : ℕ). Three x y) same.0 same.1
row_once (Three p w) (Cross e f v) h = absurd (cc)
row_once (Three p w) (Cap e v) h = absurd (cc)
row_once (Cross e f w) (Half a b v) h = absurd (cc)
row_once (Cross e f w) (Three a v) h = absurd (cc)
row_once (Cross e f w) (Cross g k v) h =
    let same = cross_same (ends e) (ends f) (ends g) (ends k) w v h in
    ap₂ (λ (x y : Pair). Cross x y w) (pair_once e g same.0) (pair_once f k same.1) ∙ ap (λ x. Cross g k x) same.2
row_once (Cross e f w) (Cap g v) h = absurd (cc)
row_once (Cap e w) (Half a b v) h = absurd (cc)
row_once (Cap e w) (Three a v) h = absurd (cc)
row_once (Cap e w) (Cross g k v) h = absurd (cc)
row_once (Cap e w) (Cap g v) h =
    let same = cap_same (ends e) (ends g) w v h in
    ap₂ (λ (x : Pair) (y : ℕ). Cap x y) (pair_once e g same.0) same.1

pub commit_once : (c d : Commit) → commit_item c ≡ commit_item d → c ≡ d
commit_once c d h =
    let caller : c.caller ≡ d.caller = ap (λ (x : CommitItem). x.caller) h in
    let seq : c.seq ≡ d.seq = ap (λ (x : CommitItem). x.seq) h in
    let edits : c.edits ≡ d.edits = map_once edit_item edit_once c.edits d.edits (ap (λ (x : CommitItem). x.edits) h) in
    let make : ℕ → ℕ → List Edit → Commit = λ a b es. record { caller = a; seq = b; edits = es } in
    ap₂ (λ (a b : ℕ). make a b c.edits) caller seq ∙ ap (make d.caller d.seq) edits

-- the parts and the instance fix the report
pub report_once : (r s : Report) → r.instance ≡ s.instance → later_parts r ≡ later_parts s → r ≡ s
report_once r s i h =
    let make : Instance → List ℕ → List Pair → Certificate → ℕ → List Pair → List Commit → Summary → Report = λ i n p c v t j m.
    record { instance = i; solution_name = n; solution = p; certificate = c; value = v; start = t; commits = j; summary = m } in
    let name : r.solution_name ≡ s.solution_name = ap (λ (x : LaterParts). x.solution.name) h in
    let solution : r.solution ≡ s.solution = map_once ends pair_once r.solution s.solution (ap (λ (x : LaterParts). x.solution.pairs) h) in
    let q : r.certificate.q ≡ s.certificate.q = ap (λ (x : LaterParts). x.certificate.q) h in
    let rows : r.certificate.rows ≡ s.certificate.rows = map_once row_item row_once r.certificate.rows s.certificate.rows (ap (λ (x : LaterParts). x.certificate.rows) h) in
    let certificate : r.certificate ≡ s.certificate = ap₂ (λ (a : ℕ) (l : List Row). record { q = a; rows = l }) q rows in
    let value : r.value ≡ s.value = ap (λ (x : LaterParts). x.certificate.value) h in
    let start : r.start ≡ s.start = map_once ends pair_once r.start s.start (ap (λ (x : LaterParts). x.journal.start) h) in
    let commits : r.commits ≡ s.commits = map_once commit_item commit_once r.commits s.commits (ap (λ (x : LaterParts). x.journal.commits) h) in
    let summary : r.summary ≡ s.summary = ap (λ (x : LaterParts). x.summary) h in
    ap₂ (λ (i : Instance) (n : List ℕ). make i n r.solution r.certificate r.value r.start r.commits r.summary) i name
    ∙ (ap₂ (λ (p : List Pair) (c : Certificate). make s.instance s.solution_name p c r.value r.start r.commits r.summary) solution certificate
    ∙ (ap₂ (λ (v : ℕ) (t : List Pair). make s.instance s.solution_name s.solution s.certificate v t r.commits r.summary) value start
    ∙ ap₂ (λ (j : List Commit) (m : Summary). make s.instance s.solution_name s.solution s.certificate s.value s.start j m) commits summary))

pub ok_is : {A : Type 0} (x y : A) → ◌≡◌ {A = Result A ReportFault} (Ok x) (Ok y) → x ≡ y
ok_is x y h = cc
