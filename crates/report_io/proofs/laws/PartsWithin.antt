-- What the lines of a report are read as is within the limits of the formats.
use Rattle.std.proofs.Common.{◌≡◌, ℕ, zero, suc, ◌+◌, ◌-◌, ◌^◌, ◌<◌, ◌≤◌, ◌⊎◌, min, max, List, [], ◌∷◌, length, Bool, true, false, cond, not, ◌&&◌, eqb, nat_le, nat_lt, ℤ, pos, negsuc, Option, Some, None, is_some, option_map, option_and_then, unwrap_or, Result, Ok, Err, All, codes, inl, inr, refl, sym, ap, ◌∙◌, subst, arith}
use Rattle.std.specs.List.{filter_map, cons_option, position}
use Rattle.std.proofs.lemmas.Bool.{and_parts, cases_eq, ltb-true}
use Rattle.std.proofs.lemmas.Bool.Decides.{nat_tests}
use Rattle.serde_json.specs.Data.{Data}
use Rattle.serde_json.specs.Find.{get, as_str, as_bool}
use Rattle.text_defs.specs.Steps.{◌>>=◌, or_fault, unless}
use Rattle.text_defs.specs.Fields.{list_of, array_at, whole_at, below, pair_of}
use Rattle.text_defs.specs.Items.{natural, if_within, number_within, if_below, index, pair, is_tag, array_list, each_or_fault, all_of, unless_many}
use Rattle.text_defs.specs.Solutions as solution
use Rattle.text_defs.proofs.laws.IsPlain.{Each, IsEdge}
use Rattle.solution_io.specs.declared.fault.SolutionFault.TheVariants as named
use Rattle.report_io.specs.declared.summary.Summary.{Summary}
use Rattle.report_io.specs.declared.faults.ReportFault.{ReportFault}
use Rattle.report_io.specs.Parts.{EditItem, dropped, kept, flipped, RowItem, half, three, cross, cap, CommitItem, SolutionParts, CertificateParts, JournalParts, LaterParts}
use Rattle.report_io.specs.declared.faults.CertLine.TheVariants as cert
use Rattle.report_io.specs.declared.faults.JournalLine.TheVariants as journal
use Rattle.report_io.specs.declared.faults.ReportFault.TheVariants as says
use Rattle.report_io.specs.Reading.{edit_in, edit_of, weight, row_in, row_of, edits_in, edits_of, start_in, start_of, commit_in, commit_of, under_solution, solution_in, most_divisor, most_64, row_items, certificate_in, most_start, most_commits, start_pairs, commit_items, journal_in, most_32, counts_in, counts_of, is_second, cost_in, summary_in, line, solution_from, certificate_from, journal_from, summary_from, later_from}
use Rattle.report_io.specs.declared.faults.SummaryLine.TheVariants as sums
use Rattle.report_io.specs.declared.faults.Field.TheVariants as key
use Rattle.report_io.specs.declared.faults.Field.{Field}
use Rattle.report_io.specs.Limits.{IsSummaryWithin}
use Rattle.report_io.proofs.laws.PartLimits.{IsEditItem, IsRowItem, IsCommitItem, AreSolutionParts, AreCertificateParts, AreJournalParts, AreLaterParts}
use Rattle.std.proofs.lemmas.Option.{same_Some}
use Rattle.report_io.proofs.laws.Once.{ok_is}

-- ---- steps that gave something

pub some_of : {A B : Type 0} (f : A → Option B) (o : Option A) (y : B) → option_and_then f o ≡ Some y → (x : A) × (o ≡ Some x) × (f x ≡ Some y)
some_of f None y h = absurd (cc)
some_of f (Some x) y h = (x, refl, h)

pub mapped_of : {A B : Type 0} (f : A → B) (o : Option A) (y : B) → option_map f o ≡ Some y → (x : A) × (o ≡ Some x) × (f x ≡ y)
mapped_of f None y h = absurd (cc)
mapped_of f (Some x) y h = (x, refl, same_Some (f x) y h)

either_of : {A : Type 0} (b : Bool) (x y : Option A) (z : A) → cond b x y ≡ Some z → (x ≡ Some z) ⊎ (y ≡ Some z)
either_of true x y z h = inl h
either_of false x y z h = inr h

if_of : {A : Type 0} (b : Bool) (x y : A) → cond b (Some x) None ≡ Some y → (b ≡ true) × (x ≡ y)
if_of true x y h = (refl, same_Some x y h)
if_of false x y h = absurd (cc)

where_of : {A : Type 0} (b : Bool) (o : Option A) (y : A) → cond b o None ≡ Some y → (b ≡ true) × (o ≡ Some y)
where_of true o y h = (refl, h)
where_of false o y h = absurd (cc)

none_of : {A : Type 0} (y : A) → ◌≡◌ {A = Option A} None (Some y) → ⊥
none_of y h = cc

-- ---- numbers and pairs

le_true : (a b : ℕ) → nat_le a b ≡ true → a ≤ b
le_true a b h = grind (arith, nat_tests)

pub number_within-some : (low high : ℕ) (d : Data) (k : ℕ) → number_within low high d ≡ Some k → (low ≤ k) × (k ≤ high)
number_within-some low high d k h =
    let (n, at, is) = some_of (if_within low high) (natural d) k h in
    let (test, same) = if_of (nat_le low n && nat_le n high) n k is in
    let both = and_parts (nat_le low n) (nat_le n high) test in
    subst (λ k. (low ≤ k) × (k ≤ high)) same (le_true low n both.0, le_true n high both.1)

pub index-some : (n : ℕ) (d : Data) (k : ℕ) → index n d ≡ Some k → k < n
index-some n d k h =
    let (i, at, is) = some_of (if_below n) (natural d) k h in
    let (test, same) = if_of (nat_lt i n) i k is in
    subst (λ k. k < n) same (ltb-true i n test)

pair_of-some : (n i j : ℕ) (e : ℕ × ℕ) (b : Bool) → eqb i j ≡ b → i < n → j < n → cond b None (Some (min i j, max i j)) ≡ Some e → IsEdge n e
pair_of-some n i j e true t h k s = absurd (none_of e s)
pair_of-some n i j e false t h k s =
    let edge : IsEdge n (min i j, max i j) = (lower i j t, upper i j n h k) in
    subst (IsEdge n) (same_Some (min i j, max i j) e s) edge
  where
    lower : (i j : ℕ) → eqb i j ≡ false → min i j < max i j
    lower i j t = grind (arith, nat_tests)

    upper : (i j n : ℕ) → i < n → j < n → max i j < n
    upper i j n h k = grind arith

pub pair-some : (n : ℕ) (a b : Data) (e : ℕ × ℕ) → pair n a b ≡ Some e → IsEdge n e
pair-some n a b e h =
    let (i, at_i, more) = some_of (λ i. option_and_then (pair_of i) (index n b)) (index n a) e h in
    let (j, at_j, is) = some_of (pair_of i) (index n b) e more in
    pair_of-some n i j e (eqb i j) refl (index-some n a i at_i) (index-some n b j at_j) is

-- ---- edits, rows, commits

mark_within : (n : ℕ) (mark : ℕ × ℕ → EditItem) (o : Option (ℕ × ℕ)) (e : EditItem) → ((f : ℕ × ℕ) → o ≡ Some f → IsEdge n f) → ((f : ℕ × ℕ) → IsEdge n f → IsEditItem n (mark f)) → option_map mark o ≡ Some e → IsEditItem n e
mark_within n mark o e edge is h = let (f, at, same) = mapped_of mark o e h in subst (IsEditItem n) same (is f (edge f at))

pub edit_in-some : (n : ℕ) (ds : List Data) (e : EditItem) → edit_in n ds ≡ Some e → IsEditItem n e
edit_in-some n [] e h = absurd (none_of e h)
edit_in-some n (t ∷ []) e h = absurd (none_of e h)
edit_in-some n (t ∷ a ∷ []) e h = absurd (none_of e h)
edit_in-some n (t ∷ a ∷ b ∷ []) e h =
    elim (either_of (is_tag (codes "d") t) (option_map dropped (pair n a b)) (cond (is_tag (codes "k") t) (option_map kept (pair n a b)) None) e h) [
      | inl one ↦ mark_within n dropped (pair n a b) e (pair-some n a b) (λ f g. g) one
      | inr two ↦ mark_within n kept (pair n a b) e (pair-some n a b) (λ f g. g) (where_of (is_tag (codes "k") t) (option_map kept (pair n a b)) e two).1
    ]
edit_in-some n (t ∷ a ∷ b ∷ c ∷ []) e h = absurd (none_of e h)
edit_in-some n (t ∷ a ∷ b ∷ c ∷ d ∷ []) e h =
    let (test, is) = where_of (is_tag (codes "f") t) (option_and_then (λ e. option_map (flipped e) (pair n c d)) (pair n a b)) e h in
    let (f, at, more) = some_of (λ e. option_map (flipped e) (pair n c d)) (pair n a b) e is in
    let edge = pair-some n a b f at in
    mark_within n (flipped f) (pair n c d) e (pair-some n c d) (λ g k. (edge, k)) more
edit_in-some n (t ∷ a ∷ b ∷ c ∷ d ∷ x ∷ more) e h = absurd (none_of e h)

pub edit_of-some : (n : ℕ) (d : Data) (e : EditItem) → edit_of n d ≡ Some e → IsEditItem n e
edit_of-some n d e h = let (ds, at, is) = some_of (edit_in n) (array_list d) e h in edit_in-some n ds e is

weighed : (n : ℕ) (make : ℕ → RowItem) (w : Data) (r : RowItem) → ((k : ℕ) → k ≤ 1000000000000 → IsRowItem n (make k)) → option_map make (weight w) ≡ Some r → IsRowItem n r
weighed n make w r is h =
    let (k, at, same) = mapped_of make (weight w) r h in
    subst (IsRowItem n) same (is k (number_within-some 0 1000000000000 w k at).1)

pub row_in-some : (n : ℕ) (ds : List Data) (r : RowItem) → row_in n ds ≡ Some r → IsRowItem n r
row_in-some n [] r h = absurd (none_of r h)
row_in-some n (t ∷ []) r h = absurd (none_of r h)
row_in-some n (t ∷ a ∷ []) r h = absurd (none_of r h)
row_in-some n (t ∷ a ∷ w ∷ []) r h =
    let (test, is) = where_of (is_tag (codes "t") t) (option_and_then (λ p. option_map (three p) (weight w)) (index n a)) r h in
    let (p, at, more) = some_of (λ p. option_map (three p) (weight w)) (index n a) r is in
    let low = index-some n a p at in
    weighed n (three p) w r (λ k l. (low, l)) more
row_in-some n (t ∷ a ∷ b ∷ w ∷ []) r h =
    let halves : Option RowItem = option_and_then (λ p. option_and_then (λ q. option_map (half p q) (weight w)) (index n b)) (index n a) in
    let caps : Option RowItem = option_and_then (λ e. option_map (cap e) (weight w)) (pair n a b) in
    elim (either_of (is_tag (codes "h") t) halves (cond (is_tag (codes "c") t) caps None) r h) [
      | inl one ↦
          let (p, at_p, more) = some_of (λ p. option_and_then (λ q. option_map (half p q) (weight w)) (index n b)) (index n a) r one in
          let (q, at_q, is) = some_of (λ q. option_map (half p q) (weight w)) (index n b) r more in
          let low = index-some n a p at_p in
          let high = index-some n b q at_q in
          weighed n (half p q) w r (λ k l. (low, high, l)) is
      | inr two ↦
          let (test, is) = where_of (is_tag (codes "c") t) caps r two in
          let (e, at, more) = some_of (λ e. option_map (cap e) (weight w)) (pair n a b) r is in
          let edge = pair-some n a b e at in
          weighed n (cap e) w r (λ k l. (edge, l)) more
    ]
row_in-some n (t ∷ a ∷ b ∷ c ∷ w ∷ []) r h = absurd (none_of r h)
row_in-some n (t ∷ a ∷ b ∷ c ∷ d ∷ w ∷ []) r h =
    let (test, is) = where_of (is_tag (codes "x") t) (option_and_then (λ e. option_and_then (λ f. option_map (cross e f) (weight w)) (pair n c d)) (pair n a b)) r h in
    let (e, at_e, more) = some_of (λ e. option_and_then (λ f. option_map (cross e f) (weight w)) (pair n c d)) (pair n a b) r is in
    let (f, at_f, rest) = some_of (λ f. option_map (cross e f) (weight w)) (pair n c d) r more in
    let one = pair-some n a b e at_e in
    let two = pair-some n c d f at_f in
    weighed n (cross e f) w r (λ k l. (one, two, l)) rest
row_in-some n (t ∷ a ∷ b ∷ c ∷ d ∷ e ∷ w ∷ more) r h = absurd (none_of r h)

pub row_of-some : (n : ℕ) (d : Data) (r : RowItem) → row_of n d ≡ Some r → IsRowItem n r
row_of-some n d r h = let (ds, at, is) = some_of (row_in n) (array_list d) r h in row_in-some n ds r is

start_in-some : (n : ℕ) (ds : List Data) (e : ℕ × ℕ) → start_in n ds ≡ Some e → IsEdge n e
start_in-some n [] e h = absurd (none_of e h)
start_in-some n (a ∷ []) e h = absurd (none_of e h)
start_in-some n (a ∷ b ∷ []) e h = pair-some n a b e h
start_in-some n (a ∷ b ∷ c ∷ more) e h = absurd (none_of e h)

pub start_of-some : (n : ℕ) (d : Data) (e : ℕ × ℕ) → start_of n d ≡ Some e → IsEdge n e
start_of-some n d e h = let (ds, at, is) = some_of (start_in n) (array_list d) e h in start_in-some n ds e is

-- ---- lists

pub all_of-some : {A : Type 0} (P : A → Type 0) (read : Data → Option A) (ds : List Data) (xs : List A) → ((d : Data) (x : A) → read d ≡ Some x → P x) → all_of read ds ≡ Some xs
    → Each P xs × (length xs ≡ length ds)
all_of-some P read [] xs is h = subst (λ ys. Each P ys × (length ys ≡ 0)) (same_Some [] xs h) (tt, refl)
all_of-some P read (d ∷ ds) xs is h =
    let (x, at, more) = some_of (λ x. option_map (λ ys. x ∷ ys) (all_of read ds)) (read d) xs h in
    let (ys, rest, same) = mapped_of (λ ys. x ∷ ys) (all_of read ds) xs more in
    let tail = all_of-some P read ds ys is rest in
    let first = is d x at in
    subst (λ zs. Each P zs × (length zs ≡ length (d ∷ ds))) same ((first, tail.0), ap suc tail.1)

given_each : {A : Type 0} (P : A → Type 0) (read : Data → Option A) (ds : List Data) → ((d : Data) (x : A) → read d ≡ Some x → P x) → Each P (filter_map read ds) × (length (filter_map read ds) ≤ length ds)
given_each P read [] is = (tt, omega arith)
given_each P read (d ∷ ds) is =
    let tail = given_each P read ds is in
    elim (read d) as (λ o. read d ≡ o → Each P (cons_option o (filter_map read ds)) × (length (cons_option o (filter_map read ds)) ≤ suc (length ds))) [
      | None ↦ λ e. (tail.0, (let l = tail.1 in omega (arith, l)))
      | Some x ↦ λ e. ((is d x e, tail.0), (let l = tail.1 in omega (arith, l)))
    ] refl

unless-ok : {A F : Type 0} (o : Option F) (x y : A) → unless o x ≡ Ok y → x ≡ y
unless-ok None x y h = cc
unless-ok (Some f) x y h = absurd (cc)

pub each_or_fault-ok : {A F : Type 0} (P : A → Type 0) (read : Data → Option A) (fault : ℕ → F) (ds : List Data) (xs : List A) → ((d : Data) (x : A) → read d ≡ Some x → P x)
    → each_or_fault read fault ds ≡ Ok xs → Each P xs × (length xs ≤ length ds)
each_or_fault-ok P read fault ds xs is h =
    let same : filter_map read ds ≡ xs = unless-ok (option_map fault (position (λ d. not (is_some (read d))) ds)) (filter_map read ds) xs h in
    subst (λ ys. Each P ys × (length ys ≤ length ds)) same (given_each P read ds is)

few_ok : {A F : Type 0} (b : Bool) (r : Result A F) (fault : F) (x : A) → cond b r (Err fault) ≡ Ok x → (b ≡ true) × (r ≡ Ok x)
few_ok true r fault x h = (refl, h)
few_ok false r fault x h = absurd (cc)

pub unless_many-ok : {A F : Type 0} (most : ℕ) (fault : ℕ → F) (ds : List Data) (r : Result A F) (x : A) → unless_many most fault ds r ≡ Ok x → (length ds ≤ most) × (r ≡ Ok x)
unless_many-ok most fault ds r x h = let (test, is) = few_ok (nat_le (length ds) most) r (fault (length ds)) x h in (le_true (length ds) most test, is)

-- ---- commits

edits_in-some : (n : ℕ) (ds : List Data) (es : List EditItem) → edits_in n ds ≡ Some es → Each (IsEditItem n) es × (1 ≤ length es) × (length es ≤ 8)
edits_in-some n ds es h =
    let (test, is) = where_of (nat_le 1 (length ds) && nat_le (length ds) 8) (all_of (edit_of n) ds) es h in
    let both = and_parts (nat_le 1 (length ds)) (nat_le (length ds) 8) test in
    let one = le_true 1 (length ds) both.0 in
    let two = le_true (length ds) 8 both.1 in
    let all = all_of-some (IsEditItem n) (edit_of n) ds es (edit_of-some n) is in
    let count = all.1 in
    (all.0, omega (arith, count, one), omega (arith, count, two))

commit_in-some : (n : ℕ) (ds : List Data) (c : CommitItem) → commit_in n ds ≡ Some c → IsCommitItem n c
commit_in-some n [] c h = absurd (none_of c h)
commit_in-some n (x ∷ []) c h = absurd (none_of c h)
commit_in-some n (x ∷ y ∷ []) c h = absurd (none_of c h)
commit_in-some n (x ∷ y ∷ z ∷ []) c h =
    let make : ℕ → ℕ → List EditItem → CommitItem = λ caller seq edits. record { caller = caller; seq = seq; edits = edits } in
    let (caller, at, more) = some_of (λ caller. option_and_then (λ seq. option_map (make caller seq) (edits_of n z)) (number_within 1 4294967295 y)) (number_within 0 16 x) c h in
    let (seq, at_seq, rest) = some_of (λ seq. option_map (make caller seq) (edits_of n z)) (number_within 1 4294967295 y) c more in
    let (edits, at_edits, same) = mapped_of (make caller seq) (edits_of n z) c rest in
    let (items, at_items, read) = some_of (edits_in n) (array_list z) edits at_edits in
    let within = edits_in-some n items edits read in
    let a = number_within-some 0 16 x caller at in
    let b = number_within-some 1 4294967295 y seq at_seq in
    subst (IsCommitItem n) same (record { caller = a.1; first = b.0; seq = (let top = b.1 in omega (arith, top)); some = within.1; few = within.2; edits = within.0 })
commit_in-some n (x ∷ y ∷ z ∷ w ∷ more) c h = absurd (none_of c h)

pub commit_of-some : (n : ℕ) (d : Data) (c : CommitItem) → commit_of n d ≡ Some c → IsCommitItem n c
commit_of-some n d c h = let (ds, at, is) = some_of (commit_in n) (array_list d) c h in commit_in-some n ds c is

-- ---- the lines

then_ok : {A B : Type 0} (r : Result A ReportFault) (next : A → Result B ReportFault) (y : B) → (r >>= next) ≡ Ok y → (x : A) × (r ≡ Ok x) × (next x ≡ Ok y)
then_ok (Ok x) next y h = (x, refl, h)
then_ok (Err f) next y h = absurd (cc)

or_ok : {A : Type 0} (f : ReportFault) (o : Option A) (x : A) → or_fault f o ≡ Ok x → o ≡ Some x
or_ok f None x h = absurd (cc)
or_ok f (Some y) x h = cc

-- the number under a key is within its limits
number_field : (f : ReportFault) (name : List ℕ) (low high : ℕ) (d : Data) (k : ℕ) → or_fault f (option_and_then (number_within low high) (get name d)) ≡ Ok k → (low ≤ k) × (k ≤ high)
number_field f name low high d k h =
    let (v, at, is) = some_of (number_within low high) (get name d) k (or_ok f (option_and_then (number_within low high) (get name d)) k h) in
    number_within-some low high v k is

under_ok : {A : Type 0} (r : Result A solution.Fault) (x : A) → under_solution r ≡ Ok x → r ≡ Ok x
under_ok (Ok y) x h = let same : y ≡ x = ok_is y x h in ap Ok same
under_ok (Err f) x h = absurd (cc)

whole_below-edge : (n i j : ℕ) (e : ℕ × ℕ) → i < n → j < n → pair_of i j ≡ Some e → IsEdge n e
whole_below-edge n i j e h k s = pair_of-some n i j e (eqb i j) refl h k s

below-some : (n : ℕ) (z : ℤ) (k : ℕ) → below n z ≡ Some k → k < n
below-some n (pos i) k h = let (test, same) = if_of (nat_lt i n) i k h in subst (λ k. k < n) same (ltb-true i n test)
below-some n (negsuc i) k h = absurd (none_of k h)

edge_of-some : (n : ℕ) (d : Data) (e : ℕ × ℕ) → solution.edge_of n d ≡ Some e → IsEdge n e
edge_of-some n d e h =
    let (i, at_i, more) = some_of (λ i. option_and_then (pair_of i) (solution.end_at n (codes "j") d)) (solution.end_at n (codes "i") d) e h in
    let (j, at_j, is) = some_of (pair_of i) (solution.end_at n (codes "j") d) e more in
    let (y, under_i, low) = some_of (below n) (whole_at (codes "i") d) i at_i in
    let (z, under_j, high) = some_of (below n) (whole_at (codes "j") d) j at_j in
    whole_below-edge n i j e (below-some n y i low) (below-some n z j high) is

edges_of-ok : (n : ℕ) (items : List Data) (pairs : List (ℕ × ℕ)) → solution.edges_of n items ≡ Ok pairs → Each (IsEdge n) pairs × (length pairs ≤ 20000)
edges_of-ok n items pairs h =
    let (test, is) = few_ok (nat_le (length items) 20000) (unless (solution.edge_fault n items) (filter_map (solution.edge_of n) items)) (solution.too_many_edges (length items)) pairs h in
    let same : filter_map (solution.edge_of n) items ≡ pairs = unless-ok (solution.edge_fault n items) (filter_map (solution.edge_of n) items) pairs is in
    let few = le_true (length items) 20000 test in
    subst (λ ys. Each (IsEdge n) ys × (length ys ≤ 20000)) same (let all = given_each (IsEdge n) (solution.edge_of n) items (edge_of-some n) in (all.0, (let l = all.1 in omega (arith, l, few))))

fault_ok : {A F : Type 0} (f : F) (o : Option A) (x : A) → ◌≡◌ {A = Result A F} (or_fault f o) (Ok x) → o ≡ Some x
fault_ok f None x h = absurd (cc)
fault_ok f (Some y) x h = cc

edges_then : {A : Type 0} (r : Result A solution.Fault) (next : A → Result (List (ℕ × ℕ)) solution.Fault) (y : List (ℕ × ℕ)) → (r >>= next) ≡ Ok y → (x : A) × (next x ≡ Ok y)
edges_then (Ok x) next y h = (x, h)
edges_then (Err f) next y h = absurd (cc)

edges_in-ok : (n : ℕ) (d : Data) (pairs : List (ℕ × ℕ)) → solution.edges_in n d ≡ Ok pairs → Each (IsEdge n) pairs × (length pairs ≤ 20000)
unfolding solution.edges_in
edges_in-ok n d pairs h =
    let (items, is) = edges_then (or_fault solution.no_edges (array_at (codes "edges") d)) (λ items. solution.edges_of n (list_of items)) pairs h in
    edges_of-ok n (list_of items) pairs is

pub solution_in-within : (n : ℕ) (d : Data) (s : SolutionParts) → solution_in n d ≡ Ok s → AreSolutionParts n s
unfolding solution_in
solution_in-within n d s h =
    let make : List ℕ → List (ℕ × ℕ) → SolutionParts = λ name pairs. record { name = name; pairs = pairs } in
    let (name, at, more) = then_ok (or_fault says.NoSolutionName (option_and_then as_str (get (codes "instance_name") d))) (λ name. under_solution (solution.edges_in n d) >>= (λ pairs. Ok (make name pairs))) s h in
    let (pairs, read, same) = then_ok (under_solution (solution.edges_in n d)) (λ pairs. Ok (make name pairs)) s more in
    let all = edges_in-ok n d pairs (under_ok (solution.edges_in n d) pairs read) in
    subst (AreSolutionParts n) (ok_is (make name pairs) s same) (record { few = all.1; pairs = all.0 })

pub certificate_in-within : (n : ℕ) (d : Data) (c : CertificateParts) → certificate_in n d ≡ Ok c → AreCertificateParts n c
unfolding certificate_in
certificate_in-within n d c h =
    let make : ℕ → List RowItem → ℕ → CertificateParts = λ q rows value. record { q = q; rows = rows; value = value } in
    let last : ℕ → List RowItem → Result CertificateParts ReportFault = λ q rows. or_fault (says.Certificate cert.NoValue) (option_and_then (number_within 0 most_64) (get (codes "value") d)) >>= (λ value. Ok (make q rows value)) in
    let (q, at_q, more) = then_ok (or_fault (says.Certificate cert.NoQ) (option_and_then (number_within 0 most_divisor) (get (codes "q") d))) (λ q. or_fault (says.Certificate cert.NoRows) (array_at (codes "rows") d) >>= (λ items. row_items n (list_of items) >>= last q)) c h in
    let (items, at_items, rest) = then_ok (or_fault (says.Certificate cert.NoRows) (array_at (codes "rows") d)) (λ items. row_items n (list_of items) >>= last q) c more in
    let (rows, at_rows, end) = then_ok (row_items n (list_of items)) (last q) c rest in
    let (value, at_value, same) = then_ok (or_fault (says.Certificate cert.NoValue) (option_and_then (number_within 0 most_64) (get (codes "value") d))) (λ value. Ok (make q rows value)) c end in
    let all = each_or_fault-ok (IsRowItem n) (row_of n) (λ k. says.Certificate (cert.BadRow k)) (list_of items) rows (row_of-some n) at_rows in
    let low = number_field (says.Certificate cert.NoQ) (codes "q") 0 most_divisor d q at_q in
    let top = (number_field (says.Certificate cert.NoValue) (codes "value") 0 most_64 d value at_value).1 in
    subst (AreCertificateParts n) (ok_is (make q rows value) c same) (record { q = low.1; rows = all.0; value = omega (arith, top) })

pub journal_in-within : (n : ℕ) (d : Data) (j : JournalParts) → journal_in n d ≡ Ok j → AreJournalParts n j
unfolding journal_in
journal_in-within n d j h =
    let make : List (ℕ × ℕ) → List CommitItem → JournalParts = λ start commits. record { start = start; commits = commits } in
    let last : List (ℕ × ℕ) → Result JournalParts ReportFault = λ start. or_fault (says.Journal journal.NoCommits) (array_at (codes "commits") d) >>= (λ items. commit_items n (list_of items) >>= (λ commits. Ok (make start commits))) in
    let (pairs, at_pairs, more) = then_ok (or_fault (says.Journal journal.NoStart) (array_at (codes "start") d)) (λ pairs. start_pairs n (list_of pairs) >>= last) j h in
    let (start, at_start, rest) = then_ok (start_pairs n (list_of pairs)) last j more in
    let (items, at_items, end) = then_ok (or_fault (says.Journal journal.NoCommits) (array_at (codes "commits") d)) (λ items. commit_items n (list_of items) >>= (λ commits. Ok (make start commits))) j rest in
    let (commits, at_commits, same) = then_ok (commit_items n (list_of items)) (λ commits. Ok (make start commits)) j end in
    let (few, is_start) = unless_many-ok most_start (λ c. says.Journal (journal.TooManyStart c)) (list_of pairs) (each_or_fault (start_of n) (λ k. says.Journal (journal.BadStart k)) (list_of pairs)) start at_start in
    let (short, is_commits) = unless_many-ok most_commits (λ c. says.Journal (journal.TooManyCommits c)) (list_of items) (each_or_fault (commit_of n) (λ k. says.Journal (journal.BadCommit k)) (list_of items)) commits at_commits in
    let one = each_or_fault-ok (IsEdge n) (start_of n) (λ k. says.Journal (journal.BadStart k)) (list_of pairs) start (start_of-some n) is_start in
    let two = each_or_fault-ok (IsCommitItem n) (commit_of n) (λ k. says.Journal (journal.BadCommit k)) (list_of items) commits (commit_of-some n) is_commits in
    let l = one.1 in
    let m = two.1 in
    subst (AreJournalParts n) (ok_is (make start commits) j same) (record { few = omega (arith, l, few); start = one.0; short = omega (arith, m, short); commits = two.0 })

each_all : {A : Type 0} (P : A → Type 0) (xs : List A) → Each P xs → All P xs
each_all P [] h k d l = absurd (omega (arith, l))
each_all P (x ∷ xs) h zero d l = h.0
each_all P (x ∷ xs) h (suc k) d l = each_all P xs h.1 k d (omega (arith, l))

counts_of-within : (d : Data) (xs : List ℕ) → counts_of d ≡ Some xs → (1 ≤ length xs) × (length xs ≤ 17) × All (λ c. c < 2 ^ 32) xs
counts_of-within d xs h =
    let (ds, at, is) = some_of counts_in (array_list d) xs h in
    let (test, read) = where_of (nat_le 1 (length ds) && nat_le (length ds) 17) (all_of (number_within 0 most_32) ds) xs is in
    let both = and_parts (nat_le 1 (length ds)) (nat_le (length ds) 17) test in
    let one = le_true 1 (length ds) both.0 in
    let two = le_true (length ds) 17 both.1 in
    let all = all_of-some (λ c. c < 2 ^ 32) (number_within 0 most_32) ds xs (λ e k g. let top = (number_within-some 0 most_32 e k g).1 in omega (arith, top)) read in
    let count = all.1 in
    (omega (arith, count, one), omega (arith, count, two), each_all (λ c. c < 2 ^ 32) xs all.0)

-- the version is 2 exactly where the cost is looked at
second_of : (v : Data) (k : ℕ) → number_within 1 2 v ≡ Some k → ((is_some (number_within 2 2 v) ≡ true) × (k ≡ 2)) ⊎ ((is_some (number_within 2 2 v) ≡ false) × (k ≡ 1))
second_of v k h =
    let (m, at, is) = some_of (if_within 1 2) (natural v) k h in
    let (test, same) = if_of (nat_le 1 m && nat_le m 2) m k is in
    let both = and_parts (nat_le 1 m) (nat_le m 2) test in
    let low = le_true 1 m both.0 in
    let high = le_true m 2 both.1 in
    elim (cases_eq m 2) [
      | inl two ↦ inl (ap (λ o. is_some (option_and_then (if_within 2 2) o)) (at ∙ ap Some two), sym same ∙ two)
      | inr other ↦ (let one : m ≡ 1 = omega (arith, low, high, other) in inr (ap (λ o. is_some (option_and_then (if_within 2 2) o)) (at ∙ ap Some one), sym same ∙ one))
    ]

cost_in-ok : (b : Bool) (d : Data) (c : Option ℕ) → cost_in b d ≡ Ok c → ((b ≡ true) × ((w : ℕ) × (c ≡ Some w) × (w ≤ most_64))) ⊎ ((b ≡ false) × (c ≡ None))
cost_in-ok true d c h =
    let (w, at, same) = then_ok (or_fault (says.Summary (sums.BadField key.Cost)) (option_and_then (number_within 0 most_64) (get (codes "cost") d))) (λ w. Ok (Some w)) c h in
    inl (refl, (w, sym (ok_is (Some w) c same), (number_field (says.Summary (sums.BadField key.Cost)) (codes "cost") 0 most_64 d w at).1))
cost_in-ok false d c h = inr (refl, sym (ok_is None c h))

told_version : (b : Bool) (c : Option ℕ) (edges k : ℕ) → ((b ≡ true) × ((w : ℕ) × (c ≡ Some w) × (w ≤ most_64))) ⊎ ((b ≡ false) × (c ≡ None)) → edges < 2 ^ 32
    → ((b ≡ true) × (k ≡ 2)) ⊎ ((b ≡ false) × (k ≡ 1)) → (unwrap_or c edges < 2 ^ 63) × ((k ≡ 2) ⊎ ((k ≡ 1) × (unwrap_or c edges ≡ edges)))
told_version b c edges k (inl (t, (w, is, top))) l (inl (u, two)) = let cost : unwrap_or c edges ≡ w = ap (λ o. unwrap_or o edges) is in (omega (arith, cost, top), inl two)
told_version b c edges k (inl (t, rest)) l (inr (u, one)) = absurd (let e : true ≡ false = sym t ∙ u in cc)
told_version b c edges k (inr (t, none)) l (inl (u, two)) = absurd (let e : false ≡ true = sym t ∙ u in cc)
told_version b c edges k (inr (t, none)) l (inr (u, one)) = let cost : unwrap_or c edges ≡ edges = ap (λ o. unwrap_or o edges) none in (omega (arith, cost, l), inr (one, cost))

abbrev says_field : Field → ReportFault
says_field f = says.Summary (sums.BadField f)

pub summary_in-within : (d : Data) (s : Summary) → summary_in d ≡ Ok s → IsSummaryWithin s
unfolding summary_in
summary_in-within d s h =
    let make : ℕ → List ℕ → Option ℕ → ℕ → ℕ → Bool → ℕ → Summary = λ bound counts cost edges gap optimal version.
    record { bound = bound; commits = counts; cost = unwrap_or cost edges; edges = edges; gap = gap; optimal = optimal; version = version } in
    let version_at = or_fault (says_field key.Version) (option_and_then (number_within 1 2) (get (codes "version") d)) in
    let optimal_at = or_fault (says_field key.Optimal) (option_and_then as_bool (get (codes "optimal") d)) in
    let gap_at = or_fault (says_field key.Gap) (option_and_then (number_within 0 most_64) (get (codes "gap") d)) in
    let edges_at = or_fault (says_field key.Edges) (option_and_then (number_within 0 most_32) (get (codes "edges") d)) in
    let counts_at = or_fault (says_field key.Commits) (option_and_then counts_of (get (codes "commits") d)) in
    let bound_at = or_fault (says_field key.Bound) (option_and_then (number_within 0 most_64) (get (codes "bound") d)) in
    let with_optimal : ℕ → List ℕ → Option ℕ → ℕ → ℕ → Bool → Result Summary ReportFault = λ bound counts cost edges gap optimal. version_at >>= (λ version. Ok (make bound counts cost edges gap optimal version)) in
    let with_gap : ℕ → List ℕ → Option ℕ → ℕ → ℕ → Result Summary ReportFault = λ bound counts cost edges gap. optimal_at >>= with_optimal bound counts cost edges gap in
    let with_edges : ℕ → List ℕ → Option ℕ → ℕ → Result Summary ReportFault = λ bound counts cost edges. gap_at >>= with_gap bound counts cost edges in
    let with_cost : ℕ → List ℕ → Option ℕ → Result Summary ReportFault = λ bound counts cost. edges_at >>= with_edges bound counts cost in
    let with_counts : ℕ → List ℕ → Result Summary ReportFault = λ bound counts. cost_in (is_second d) d >>= with_cost bound counts in
    let (bound, a, more) = then_ok bound_at (λ bound. counts_at >>= with_counts bound) s h in
    let (counts, b, more2) = then_ok counts_at (with_counts bound) s more in
    let (cost, c, more3) = then_ok (cost_in (is_second d) d) (with_cost bound counts) s more2 in
    let (edges, e, more4) = then_ok edges_at (with_edges bound counts cost) s more3 in
    let (gap, g, more5) = then_ok gap_at (with_gap bound counts cost edges) s more4 in
    let (optimal, o, more6) = then_ok optimal_at (with_optimal bound counts cost edges gap) s more5 in
    let (version, v, same) = then_ok version_at (λ version. Ok (make bound counts cost edges gap optimal version)) s more6 in
    let (found, under_counts, is_counts) = some_of counts_of (get (codes "commits") d) counts (or_ok (says_field key.Commits) (option_and_then counts_of (get (codes "commits") d)) counts b) in
    let within = counts_of-within found counts is_counts in
    let (number, under_version, is_version) = some_of (number_within 1 2) (get (codes "version") d) version (or_ok (says_field key.Version) (option_and_then (number_within 1 2) (get (codes "version") d)) version v) in
    let second : is_second d ≡ is_some (number_within 2 2 number) = ap (λ x. is_some (option_and_then (number_within 2 2) x)) under_version in
    let ways : ((is_second d ≡ true) × (version ≡ 2)) ⊎ ((is_second d ≡ false) × (version ≡ 1)) =
    subst (λ t. ((t ≡ true) × (version ≡ 2)) ⊎ ((t ≡ false) × (version ≡ 1))) (sym second) (second_of number version is_version) in
    let top_bound = (number_field (says_field key.Bound) (codes "bound") 0 most_64 d bound a).1 in
    let top_edges = (number_field (says_field key.Edges) (codes "edges") 0 most_32 d edges e).1 in
    let top_gap = (number_field (says_field key.Gap) (codes "gap") 0 most_64 d gap g).1 in
    let small : edges < 2 ^ 32 = omega (arith, top_edges) in
    let told = told_version (is_second d) cost edges version (cost_in-ok (is_second d) d cost c) small ways in
    subst IsSummaryWithin (ok_is (make bound counts cost edges gap optimal version) s same)
    (record { bound = omega (arith, top_bound); some = within.0; few = within.1; commits = within.2; cost = told.0; edges = small; gap = omega (arith, top_gap); version = told.1 })

-- what the lines behind an instance are read as is within the limits
pub later_from-within : (n : ℕ) (second third fourth fifth : List ℕ) (r : LaterParts) → later_from n second third fourth fifth ≡ Ok r → AreLaterParts n r
unfolding later_from
later_from-within n second third fourth fifth r h =
    let make : SolutionParts → CertificateParts → JournalParts → Summary → LaterParts = λ s c j m. record { solution = s; certificate = c; journal = j; summary = m } in
    let (s, a, more) = then_ok (solution_from n second) (λ s. certificate_from n third >>= (λ c. journal_from n fourth >>= (λ j. summary_from fifth >>= (λ m. Ok (make s c j m))))) r h in
    let (c, b, more2) = then_ok (certificate_from n third) (λ c. journal_from n fourth >>= (λ j. summary_from fifth >>= (λ m. Ok (make s c j m)))) r more in
    let (j, e, more3) = then_ok (journal_from n fourth) (λ j. summary_from fifth >>= (λ m. Ok (make s c j m))) r more2 in
    let (m, f, same) = then_ok (summary_from fifth) (λ m. Ok (make s c j m)) r more3 in
    let (d2, at2, is2) = then_ok (line (says.Solution named.NotJson) second) (solution_in n) s a in
    let (d3, at3, is3) = then_ok (line (says.Certificate cert.NotJson) third) (certificate_in n) c b in
    let (d4, at4, is4) = then_ok (line (says.Journal journal.NotJson) fourth) (journal_in n) j e in
    let (d5, at5, is5) = then_ok (line (says.Summary sums.NotJson) fifth) summary_in m f in
    subst (AreLaterParts n) (ok_is (make s c j m) r same)
    (record { solution = solution_in-within n d2 s is2; certificate = certificate_in-within n d3 c is3; journal = journal_in-within n d4 j is4; summary = summary_in-within d5 m is5 })
