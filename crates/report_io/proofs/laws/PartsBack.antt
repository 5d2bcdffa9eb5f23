-- What is written for each part of a report is read as the part.
use Rattle.std.proofs.Common.{◌≡◌, ℕ, ◌^◌, ◌<◌, ◌≤◌, min, max, List, [], ◌∷◌, length, map, not, ◌==◌, eqb, is_some, Some, None, Option, Ok, Result, filter_map, option_map, option_and_then, codes, inl, inr, refl, sym, ap, ap₂, ◌∙◌, arith, le-leb, lt-ltb, ne_eqb, nat_le, false, true}
use Rattle.std.proofs.lemmas.List.{length-map}
use Rattle.serde_json.specs.Data.{Data}
use Rattle.serde_json.specs.View.{items_of}
use Rattle.text_defs.specs.Steps.{◌>>=◌, unless}
use Rattle.text_defs.specs.Fields.{list_of, pair_of}
use Rattle.text_defs.specs.Items.{number_within, index, pair, array_list, each_or_fault, all_of, unless_many}
use Rattle.text_defs.specs.Texts.{index_data, solution_data}
use Rattle.text_defs.proofs.laws.IsPlain.{Each, IsEdge}
use Rattle.text_defs.proofs.laws.Lists.{list_of-items_of, position_none, each}
use Rattle.text_defs.proofs.laws.Solutions.{edges_in-solution_data}
use Rattle.report_io.specs.declared.summary.Summary.{Summary}
use Rattle.report_io.specs.Parts.{EditItem, dropped, kept, flipped, RowItem, half, three, cross, cap, CommitItem, SolutionParts, CertificateParts, JournalParts}
use Rattle.report_io.specs.Reading.{edit_of, weight, most_weight, row_of, row_items, most_64, most_32, certificate_in, start_of, edits_in, edits_of, commit_of, start_pairs, commit_items, journal_in, counts_in, counts_of, summary_in, under_solution, solution_in}
use Rattle.report_io.specs.Texts.{list_data, edit_data, row_data, certificate_data, commit_data, start_data, journal_data, summary_data}
use Rattle.report_io.specs.Limits.{IsSummaryWithin}
use Rattle.report_io.proofs.laws.PartLimits.{IsEditItem, IsRowItem, IsCommitItem, AreSolutionParts, AreCertificateParts, AreJournalParts}

each_back : {A F : Type 0} (P : A → Type 0) (read : Data → Option A) (tell : A → Data) (fault : ℕ → F) (xs : List A) → ((x : A) → P x → read (tell x) ≡ Some x) → Each P xs
    → each_or_fault read fault (map tell xs) ≡ Ok xs
each_back P read tell fault xs back h =
    ap₂ (λ (o : Option _) (l : List _). unless o l) (ap (option_map fault) (position_none (λ d. not (is_some (read d))) (map tell xs) (some_each xs h))) (same xs h)
  where
    some_each : (ys : List _) → Each P ys → Each (λ d. not (is_some (read d)) ≡ false) (map tell ys)
    some_each [] h = tt
    some_each (y ∷ ys) h = (ap (λ o. not (is_some o)) (back y h.0), some_each ys h.1)

    same : (ys : List _) → Each P ys → filter_map read (map tell ys) ≡ ys
    same [] h = refl
    same (y ∷ ys) h = rw (back y h.0) (ap (λ l. y ∷ l) (same ys h.1))

pub all_back : {A : Type 0} (P : A → Type 0) (read : Data → Option A) (tell : A → Data) (xs : List A) → ((x : A) → P x → read (tell x) ≡ Some x) → Each P xs → all_of read (map tell xs) ≡ Some xs
all_back P read tell [] back h = refl
all_back P read tell (x ∷ xs) back h = rw (back x h.0) (rw (all_back P read tell xs back h.1) refl)

index_back : (n i : ℕ) → i < n → index n (index_data i) ≡ Some i
index_back n i h = rw (lt-ltb i n h) refl

number_back : (low high i : ℕ) → low ≤ i → i ≤ high → number_within low high (index_data i) ≡ Some i
number_back low high i h k = rw (le-leb low i h, le-leb i high k) refl

pair_back : (n : ℕ) (e : ℕ × ℕ) → IsEdge n e → pair n (index_data e.0) (index_data e.1) ≡ Some e
pair_back n (i, j) h =
    let below : i < n = omega (arith, h.0, h.1) in
    let differ : eqb i j ≡ false = ne_eqb i j (λ e. omega (arith, h.0)) in
    ap₂ (λ (a b : Option ℕ). option_and_then (λ i. option_and_then (pair_of i) b) a) (index_back n i below) (index_back n j h.1)
    ∙ rw differ (ap₂ (λ (x y : ℕ). Some (x, y)) (smaller i j h.0) (larger i j h.0))
  where
    smaller : (i j : ℕ) → i < j → min i j ≡ i
    smaller i j h = grind arith

    larger : (i j : ℕ) → i < j → max i j ≡ j
    larger i j h = grind arith

pub edit_back : (n : ℕ) (e : EditItem) → IsEditItem n e → edit_of n (edit_data e) ≡ Some e
edit_back n (dropped e) h = ap (option_map dropped) (pair_back n e h)
edit_back n (kept e) h = ap (option_map kept) (pair_back n e h)
edit_back n (flipped e f) h = ap₂ (λ (a b : Option (ℕ × ℕ)). option_and_then (λ e. option_map (flipped e) b) a) (pair_back n e h.0) (pair_back n f h.1)

weight_back : (w : ℕ) → w ≤ most_weight → weight (index_data w) ≡ Some w
weight_back w h = number_back 0 most_weight w (omega arith) h

pub row_back : (n : ℕ) (r : RowItem) → IsRowItem n r → row_of n (row_data r) ≡ Some r
row_back n (half p q w) h =
    ap₂ (λ (a b : Option ℕ). option_and_then (λ p. option_and_then (λ q. option_map (half p q) (weight (index_data w))) b) a) (index_back n p h.0) (index_back n q h.1)
    ∙ ap (option_map (half p q)) (weight_back w h.2)
row_back n (three p w) h = ap₂ (λ (a b : Option ℕ). option_and_then (λ p. option_map (three p) b) a) (index_back n p h.0) (weight_back w h.1)
row_back n (cross e f w) h =
    ap₂ (λ (a b : Option (ℕ × ℕ)). option_and_then (λ e. option_and_then (λ f. option_map (cross e f) (weight (index_data w))) b) a) (pair_back n e h.0) (pair_back n f h.1)
    ∙ ap (option_map (cross e f)) (weight_back w h.2)
row_back n (cap e w) h =
    ap (option_and_then (λ e. option_map (cap e) (weight (index_data w)))) (pair_back n e h.0) ∙ ap (option_map (cap e)) (weight_back w h.1)

pub start_back : (n : ℕ) (e : ℕ × ℕ) → IsEdge n e → start_of n (start_data e) ≡ Some e
start_back n e h = pair_back n e h

pub commit_back : (n : ℕ) (c : CommitItem) → IsCommitItem n c → commit_of n (commit_data c) ≡ Some c
commit_back n c h =
    let items = map edit_data c.edits in
    let len = length-map c.edits edit_data in
    let some : nat_le 1 (length items) ≡ true = le-leb 1 (length items) (omega (arith, len, h.some)) in
    let few : nat_le (length items) 8 ≡ true = le-leb (length items) 8 (omega (arith, len, h.few)) in
    let edits : edits_in n items ≡ Some c.edits = rw (some, few) (all_back (IsEditItem n) (edit_of n) edit_data c.edits (edit_back n) h.edits) in
    let read : edits_of n (list_data items) ≡ Some c.edits = ap (edits_in n) (list_of-items_of items) ∙ edits in
    let top : c.seq ≤ most_32 = omega (arith, h.seq) in
    ap₂ (λ (a b : Option ℕ). option_and_then (λ caller. option_and_then (λ seq. option_map (λ edits. record { caller = caller; seq = seq; edits = edits }) (edits_of n (list_data items))) b) a)
    (number_back 0 16 c.caller (omega arith) h.caller) (number_back 1 most_32 c.seq h.first top)
    ∙ ap (option_map (λ edits. record { caller = c.caller; seq = c.seq; edits = edits })) read

pub certificate_back : (n : ℕ) (c : CertificateParts) → AreCertificateParts n c → certificate_in n (certificate_data c) ≡ Ok c
unfolding certificate_in
certificate_back n c h =
    let items = map row_data c.rows in
    let q = number_back 0 1000000 c.q (omega arith) h.q in
    let top : c.value ≤ most_64 = omega (arith, h.value) in
    let value = number_back 0 most_64 c.value (omega arith) top in
    let rows : row_items n (list_of (items_of items)) ≡ Ok c.rows =
    ap (row_items n) (list_of-items_of items) ∙ each_back (IsRowItem n) (row_of n) row_data _ c.rows (row_back n) h.rows in
    rw q (rw rows (rw value refl))

pub journal_back : (n : ℕ) (j : JournalParts) → AreJournalParts n j → journal_in n (journal_data j) ≡ Ok j
unfolding journal_in
journal_back n j h =
    let pairs = map start_data j.start in
    let items = map commit_data j.commits in
    let few : nat_le (length pairs) 20000 ≡ true = le-leb (length pairs) 20000 (omega (arith, length-map j.start start_data, h.few)) in
    let short : nat_le (length items) 200000 ≡ true = le-leb (length items) 200000 (omega (arith, length-map j.commits commit_data, h.short)) in
    let start : start_pairs n (list_of (items_of pairs)) ≡ Ok j.start =
    ap (start_pairs n) (list_of-items_of pairs) ∙ rw few (each_back (IsEdge n) (start_of n) start_data _ j.start (start_back n) h.start) in
    let commits : commit_items n (list_of (items_of items)) ≡ Ok j.commits =
    ap (commit_items n) (list_of-items_of items) ∙ rw short (each_back (IsCommitItem n) (commit_of n) commit_data _ j.commits (commit_back n) h.commits) in
    rw start (rw commits refl)

counts_back : (s : Summary) → IsSummaryWithin s → counts_of (list_data (map index_data s.commits)) ≡ Some s.commits
counts_back s h =
    let items = map index_data s.commits in
    let len = length-map s.commits index_data in
    let some : nat_le 1 (length items) ≡ true = le-leb 1 (length items) (omega (arith, len, h.some)) in
    let few : nat_le (length items) 17 ≡ true = le-leb (length items) 17 (omega (arith, len, h.few)) in
    ap counts_in (list_of-items_of items)
    ∙ rw (some, few) (all_back (λ c. c < 2 ^ 32) (number_within 0 most_32) index_data s.commits (λ c k. number_back 0 most_32 c (omega arith) (let m : c ≤ most_32 = omega (arith, k) in m)) (each (λ c. c < 2 ^ 32) s.commits h.commits))

top : (v : ℕ) → v < 2 ^ 63 → number_within 0 most_64 (index_data v) ≡ Some v
top v h = number_back 0 most_64 v (omega arith) (omega (arith, h))

pub summary_back : (s : Summary) → IsSummaryWithin s → summary_in (summary_data s) ≡ Ok s
unfolding summary_in
summary_back s h =
    let b = top s.bound h.bound in
    let c = counts_back s h in
    let g = top s.gap h.gap in
    let e : number_within 0 most_32 (index_data s.edges) ≡ Some s.edges = number_back 0 most_32 s.edges (omega arith) (let m : s.edges ≤ most_32 = omega (arith, h.edges) in m) in
    elim h.version [
      | inl two ↦ let t = top s.cost h.cost in rw two (rw b (rw c (rw t (rw e (rw g refl)))))
      | inr one ↦ rw one.0 (rw b (rw c (rw e (rw g (ap (λ c. Ok (record { bound = s.bound; commits = s.commits; cost = c; edges = s.edges; gap = s.gap; optimal = s.optimal; version = 1 })) (sym one.1))))))
    ]

pub solution_back : (n : ℕ) (s : SolutionParts) → n ≤ 2 ^ 63 → AreSolutionParts n s → solution_in n (solution_data s.name s.pairs) ≡ Ok s
unfolding solution_in
solution_back n s small h =
    ap (λ r. under_solution r >>= (λ (pairs : List (ℕ × ℕ)). Ok (record { name = s.name; pairs = pairs }))) (edges_in-solution_data n s.name s.pairs small h.few h.pairs)
