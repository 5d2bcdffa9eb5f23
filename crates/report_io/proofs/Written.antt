-- The parts of written texts.
use Rattle.std.proofs.Common.{◌≡◌, ℕ, ◌+◌, ◌<◌, ◌≤◌, List, [], ◌∷◌, ◌++◌, length, map, drop, get_or, nat_lt, Bool, true, false, codes, decimal, ◌==◌, refl, sym, ap, ◌∙◌, append_assoc, append-nil, arith}
use Rattle.std.proofs.lemmas.List.{drop_more, length-map, get_or-map}
use Rattle.json.specs.Print.{quoted, escape_byte}
use Rattle.serde_json.specs.Data.{Data, null}
use Rattle.serde_json.specs.View.{items_of}
use Rattle.serde_json.specs.Written.{comma_if, compact_text, items_text, members_text}
use Rattle.text_defs.specs.Lines.{line_text, lines_text}
use Rattle.text_defs.specs.Texts.{index_data}
use Rattle.json_text.proofs.Laws.{items_from, items_text-next, items_text-end}
use Rattle.report_io.specs.declared.summary.Summary.{Summary}
use Rattle.report_io.specs.Parts.{EditItem, dropped, kept, flipped, RowItem, half, three, cross, cap, CommitItem, CertificateParts, JournalParts}
use Rattle.report_io.specs.Texts.{list_data, tagged_data, edit_data, row_data, certificate_data, commit_data, start_data, journal_data, later_fields, cost_fields, summary_data}
use Rattle.plane.specs.declared.segment.Pair.{Pair}
use Rattle.journal_defs.specs.declared.edit.Edit.{Edit}
use Rattle.journal_defs.specs.declared.edit.Edit.TheVariants.{Drop, Keep}
use Rattle.price_defs.specs.declared.row.Row.{Row}
use Rattle.price_defs.specs.declared.row.Row.TheVariants.{Half, Three, Cap}
use Rattle.instance_io.specs.Refusal.{ends}
use Rattle.report_io.specs.Report.{edit_item, row_item}
use Rattle.report_io.specs.Answers.{numbers_text, list_text, cost_text, truth_text, later_text}

-- ---- arrays of items

data_at : {X A : Type 0} (data_of : A → Data) (tell : X → A) (xs : List X) (k : ℕ) (x : X) → k < length xs → x ≡ get_or xs k x → get_or (map data_of (map tell xs)) k null ≡ data_of (tell x)
data_at data_of tell xs k x h e =
    let l : k < length (map tell xs) = let n = length-map xs tell in omega (arith, n, h) in
    get_or-map data_of (map tell xs) k (tell x) null l ∙ ap data_of (get_or-map tell xs k x (tell x) h ∙ ap tell (sym e))

pub next_item : {X A : Type 0} (data_of : A → Data) (tell : X → A) (xs : List X) (k : ℕ) (x : X) (old new all : List ℕ) → k < length xs → x ≡ get_or xs k x
    → old ++ items_text (nat_lt 0 k) (items_from k (map data_of (map tell xs))) ≡ all
    → new ≡ old ++ (comma_if (nat_lt 0 k) ++ compact_text (data_of (tell x)))
    → new ++ items_text (nat_lt 0 (k + 1)) (items_from (k + 1) (map data_of (map tell xs))) ≡ all
next_item data_of tell xs k x old new all h e s n =
    let a = length-map xs tell in
    let b = length-map (map tell xs) data_of in
    items_text-next k (map data_of (map tell xs)) (data_of (tell x)) old new all (omega (arith, a, b, h)) (data_at data_of tell xs k x h e) s n

pub last_item : {X A : Type 0} (data_of : A → Data) (tell : X → A) (xs : List X) (k : ℕ) (start text end : List ℕ) → length xs ≤ k
    → text ++ items_text (nat_lt 0 k) (items_from k (map data_of (map tell xs))) ≡ start ++ list_text (map data_of (map tell xs))
    → end ≡ text ++ 93 ∷ [] → end ≡ start ++ list_text (map data_of (map tell xs))
last_item data_of tell xs k start text end h s n =
    let a = length-map xs tell in
    let b = length-map (map tell xs) data_of in
    n ∙ (ap (λ ys. text ++ ys) (sym (items_text-end k (map data_of (map tell xs)) (nat_lt 0 k) (omega (arith, a, b, h)))) ∙ s)

-- ---- numbers

number_at : (ns : List ℕ) (k n : ℕ) → k < length ns → get_or ns k 0 ≡ n → get_or (map index_data ns) k null ≡ index_data n
number_at ns k n h e = get_or-map index_data ns k 0 null h ∙ ap index_data e

pub next_count : (ns : List ℕ) (k n : ℕ) (old mid new all : List ℕ) → k < length ns → get_or ns k 0 ≡ n
    → old ++ items_text (nat_lt 0 k) (items_from k (map index_data ns)) ≡ all
    → mid ≡ old ++ comma_if (nat_lt 0 k) → new ≡ mid ++ decimal n
    → new ++ items_text (nat_lt 0 (k + 1)) (items_from (k + 1) (map index_data ns)) ≡ all
next_count ns k n old mid new all h e s m q =
    let a = length-map ns index_data in
    items_text-next k (map index_data ns) (index_data n) old new all (omega (arith, a, h)) (number_at ns k n h e) s
    (q ∙ (ap (λ xs. xs ++ decimal n) m ∙ append_assoc old (comma_if (nat_lt 0 k)) (decimal n)))

pub last_count : (ns : List ℕ) (k : ℕ) (start text end : List ℕ) → length ns ≤ k
    → text ++ items_text (nat_lt 0 k) (items_from k (map index_data ns)) ≡ start ++ list_text (map index_data ns)
    → end ≡ text ++ 93 ∷ [] → end ≡ start ++ list_text (map index_data ns)
last_count ns k start text end h s n =
    let a = length-map ns index_data in
    n ∙ (ap (λ ys. text ++ ys) (sym (items_text-end k (map index_data ns) (nat_lt 0 k) (omega (arith, a, h)))) ∙ s)

-- a number behind another
pub next_number : (ns : List ℕ) (k n : ℕ) (old mid new all : List ℕ) → k < length ns → get_or ns k 0 ≡ n
    → old ++ items_text true (items_from k (map index_data ns)) ≡ all → mid ≡ old ++ 44 ∷ [] → new ≡ mid ++ decimal n
    → new ++ items_text true (items_from (k + 1) (map index_data ns)) ≡ all
next_number ns k n old mid new all h e s m q =
    let ds = map index_data ns in
    let a = length-map ns index_data in
    let l : k < length ds = omega (arith, a, h) in
    let more = items_text true (items_from (k + 1) ds) in
    let rest : drop k ds ≡ index_data n ∷ drop (k + 1) ds = drop_more ds k null l ∙ ap (λ x. x ∷ drop (k + 1) ds) (number_at ns k n h e) in
    let here : items_text true (items_from k ds) ≡ (44 ∷ []) ++ (decimal n ++ more) = ap (λ xs. items_text true (items_of xs)) rest in
    ap (λ xs. xs ++ more) (q ∙ ap (λ xs. xs ++ decimal n) m)
    ∙ (append_assoc (old ++ 44 ∷ []) (decimal n) more ∙ (append_assoc old (44 ∷ []) (decimal n ++ more) ∙ (ap (λ xs. old ++ xs) (sym here) ∙ s)))

pub last_number : (ns : List ℕ) (k : ℕ) (start text end : List ℕ) → length ns ≤ k → text ++ items_text true (items_from k (map index_data ns)) ≡ start ++ numbers_text ns
    → end ≡ text ++ 93 ∷ [] → end ≡ start ++ numbers_text ns
last_number ns k start text end h s n =
    let a = length-map ns index_data in
    n ∙ (ap (λ ys. text ++ ys) (sym (items_text-end k (map index_data ns) true (omega (arith, a, h)))) ∙ s)

-- ---- rows and edits

pub half_text : (p q w : ℕ) → compact_text (row_data (half p q w)) ≡ codes "[\"h\"" ++ numbers_text (p ∷ q ∷ w ∷ [])
unfolding escape_byte
half_text p q w = refl

pub three_text : (p w : ℕ) → compact_text (row_data (three p w)) ≡ codes "[\"t\"" ++ numbers_text (p ∷ w ∷ [])
unfolding escape_byte
three_text p w = refl

pub cross_text : (e f : ℕ × ℕ) (w : ℕ) → compact_text (row_data (cross e f w)) ≡ codes "[\"x\"" ++ numbers_text (e.0 ∷ e.1 ∷ f.0 ∷ f.1 ∷ w ∷ [])
unfolding escape_byte
cross_text e f w = refl

pub cap_text : (e : ℕ × ℕ) (w : ℕ) → compact_text (row_data (cap e w)) ≡ codes "[\"c\"" ++ numbers_text (e.0 ∷ e.1 ∷ w ∷ [])
unfolding escape_byte
cap_text e w = refl

pub drop_text : (e : ℕ × ℕ) → compact_text (edit_data (dropped e)) ≡ codes "[\"d\"" ++ numbers_text (e.0 ∷ e.1 ∷ [])
unfolding escape_byte
drop_text e = refl

pub keep_text : (e : ℕ × ℕ) → compact_text (edit_data (kept e)) ≡ codes "[\"k\"" ++ numbers_text (e.0 ∷ e.1 ∷ [])
unfolding escape_byte
keep_text e = refl

pub flip_text : (e f : ℕ × ℕ) → compact_text (edit_data (flipped e f)) ≡ codes "[\"f\"" ++ numbers_text (e.0 ∷ e.1 ∷ f.0 ∷ f.1 ∷ [])
unfolding escape_byte
flip_text e f = refl

-- the same of what is matched
pub half_at : (r : Row) (p q w : ℕ) → r ≡ Half p q w → codes "[\"h\"" ++ numbers_text (p ∷ q ∷ w ∷ []) ≡ compact_text (row_data (row_item r))
half_at r p q w h = sym (half_text p q w) ∙ ap (λ (x : Row). compact_text (row_data (row_item x))) (sym h)

pub three_at : (r : Row) (p w : ℕ) → r ≡ Three p w → codes "[\"t\"" ++ numbers_text (p ∷ w ∷ []) ≡ compact_text (row_data (row_item r))
three_at r p w h = sym (three_text p w) ∙ ap (λ (x : Row). compact_text (row_data (row_item x))) (sym h)

pub cap_at : (r : Row) (e : Pair) (w : ℕ) → r ≡ Cap e w → codes "[\"c\"" ++ numbers_text (e.lo ∷ e.hi ∷ w ∷ []) ≡ compact_text (row_data (row_item r))
cap_at r e w h = sym (cap_text (ends e) w) ∙ ap (λ (x : Row). compact_text (row_data (row_item x))) (sym h)

pub drop_at : (x : Edit) (e : Pair) → x ≡ Drop e → codes "[\"d\"" ++ numbers_text (e.lo ∷ e.hi ∷ []) ≡ compact_text (edit_data (edit_item x))
drop_at x e h = sym (drop_text (ends e)) ∙ ap (λ (y : Edit). compact_text (edit_data (edit_item y))) (sym h)

pub keep_at : (x : Edit) (e : Pair) → x ≡ Keep e → codes "[\"k\"" ++ numbers_text (e.lo ∷ e.hi ∷ []) ≡ compact_text (edit_data (edit_item x))
keep_at x e h = sym (keep_text (ends e)) ∙ ap (λ (y : Edit). compact_text (edit_data (edit_item y))) (sym h)

-- ---- the lines

pub commit_text : (c : CommitItem) → compact_text (commit_data c) ≡ 91 ∷ [] ++ (decimal c.caller ++ (44 ∷ [] ++ (decimal c.seq ++ (codes ",[" ++ (list_text (map edit_data c.edits) ++ 93 ∷ [])))))
commit_text c = refl

pub start_text : (e : ℕ × ℕ) → compact_text (start_data e) ≡ 91 ∷ [] ++ (decimal e.0 ++ (44 ∷ [] ++ (decimal e.1 ++ 93 ∷ [])))
start_text e = refl

pub certificate_text : (c : CertificateParts) → compact_text (certificate_data c)
    ≡ codes "{\"q\":" ++ (decimal c.q ++ (codes ",\"rows\":[" ++ (list_text (map row_data c.rows) ++ (codes ",\"value\":" ++ (decimal c.value ++ 125 ∷ [])))))
unfolding escape_byte
certificate_text c = refl

pub journal_text : (j : JournalParts) → compact_text (journal_data j)
    ≡ codes "{\"commits\":[" ++ (list_text (map commit_data j.commits) ++ (codes ",\"start\":[" ++ (list_text (map start_data j.start) ++ 125 ∷ [])))
unfolding escape_byte
journal_text j = refl

later_members : (s : Summary) → members_text true (later_fields s) ≡ later_text s
unfolding escape_byte
later_members s = elim s.optimal as (λ b. members_text true (later_fields (record s { optimal = b })) ≡ later_text (record s { optimal = b })) [ true ↦ refl | false ↦ refl ]

cost_members : (b : Bool) (s : Summary) → members_text true (cost_fields b s) ≡ cost_text b s.cost ++ later_text s
unfolding escape_byte
cost_members true s = ap (λ xs. codes ",\"cost\":" ++ (decimal s.cost ++ xs)) (later_members s)
cost_members false s = later_members s

pub summary_text : (s : Summary) → compact_text (summary_data s)
    ≡ codes "{\"bound\":" ++ (decimal s.bound ++ (codes ",\"commits\":[" ++ (list_text (map index_data s.commits) ++ (cost_text (s.version == 2) s.cost ++ later_text s))))
unfolding escape_byte
summary_text s = ap (λ xs. codes "{\"bound\":" ++ (decimal s.bound ++ (codes ",\"commits\":[" ++ (list_text (map index_data s.commits) ++ xs)))) (cost_members (s.version == 2) s)

-- ---- the report

pub five_lines_text : (a b c d e : Data) → line_text a ++ (line_text b ++ (line_text c ++ (line_text d ++ line_text e))) ≡ lines_text (a ∷ b ∷ c ∷ d ∷ e ∷ [])
unfolding lines_text
five_lines_text a b c d e = ap (λ xs. line_text a ++ (line_text b ++ (line_text c ++ (line_text d ++ xs)))) (sym (append-nil (line_text e)))
