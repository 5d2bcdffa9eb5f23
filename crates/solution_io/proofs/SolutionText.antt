-- The text of a solution in parts.
use Rattle.std.proofs.Common.{◌≡◌, ℕ, ◌+◌, ◌<◌, ◌≤◌, List, [], ◌∷◌, ◌++◌, length, map, drop, get_or, nat_lt, Bool, true, false, codes, decimal, refl, sym, ap, ◌∙◌, append_assoc, arith}
use Rattle.std.proofs.lemmas.List.{drop_more, drop_all, length-map, get_or-map}
use Rattle.json.specs.Print.{quoted, escape_byte}
use Rattle.serde_json.specs.Data.{Items}
use Rattle.serde_json.specs.View.{items_of}
use Rattle.serde_json.specs.Written.{comma_if, compact_text, items_text}
use Rattle.plane.specs.declared.segment.Pair.{Pair}
use Rattle.text_defs.specs.Texts.{edge_data, solution_text}
use Rattle.instance_io.specs.Refusal.{ends}

pub edge_text : (i j : ℕ) → compact_text (edge_data (i, j)) ≡ codes "{\"i\":" ++ (decimal i ++ (codes ",\"j\":" ++ (decimal j ++ 125 ∷ [])))
unfolding escape_byte
edge_text i j = refl

-- the pairs from place k on
abbrev pub rest : ℕ → List (ℕ × ℕ) → Items
rest k edges = items_of (map edge_data (drop k edges))

abbrev pub tail_text : List ℕ → List ℕ
tail_text name = codes ",\"instance_name\":" ++ (quoted name ++ codes ",\"type\":\"Solution\"}")

parts_text : (name : List ℕ) (edges : List (ℕ × ℕ)) → solution_text name edges ≡ codes "{\"edges\":[" ++ (items_text false (rest 0 edges) ++ tail_text name)
unfolding solution_text escape_byte
parts_text name edges = refl

rest_here : (k : ℕ) (pairs : List Pair) (p : Pair) → k < length pairs → p ≡ get_or pairs k p → rest k (map ends pairs) ≡ items_of (map edge_data (ends p ∷ drop (k + 1) (map ends pairs)))
rest_here k pairs p h e =
    let l : k < length (map ends pairs) = let q = length-map pairs ends in omega (arith, q) in
    ap (λ xs. items_of (map edge_data xs)) (drop_more (map ends pairs) k (0, 0) l
    ∙ ap (λ x. x ∷ drop (k + 1) (map ends pairs)) (get_or-map ends pairs k p (0, 0) h ∙ ap ends (sym e)))

pub next_edge : (k : ℕ) (pairs : List Pair) (p : Pair) (old new all : List ℕ) → k < length pairs → p ≡ get_or pairs k p
    → old ++ items_text (nat_lt 0 k) (rest k (map ends pairs)) ≡ all
    → new ≡ old ++ (comma_if (nat_lt 0 k) ++ compact_text (edge_data (ends p)))
    → new ++ items_text (nat_lt 0 (k + 1)) (rest (k + 1) (map ends pairs)) ≡ all
next_edge k pairs p old new all h e s n =
    let later : nat_lt 0 (k + 1) ≡ true = grind arith in
    let text = compact_text (edge_data (ends p)) in
    let more = items_text true (rest (k + 1) (map ends pairs)) in
    let here : items_text (nat_lt 0 k) (rest k (map ends pairs)) ≡ comma_if (nat_lt 0 k) ++ (text ++ more) = ap (items_text (nat_lt 0 k)) (rest_here k pairs p h e) in
    rw (later, n) (append_assoc old (comma_if (nat_lt 0 k) ++ text) more ∙ (ap (λ xs. old ++ xs) (append_assoc (comma_if (nat_lt 0 k)) text more ∙ sym here) ∙ s))

no_more : (k : ℕ) (pairs : List Pair) → length pairs ≤ k → (later : Bool) → items_text later (rest k (map ends pairs)) ≡ 93 ∷ []
no_more k pairs h later =
    ap (λ xs. items_text later (items_of (map edge_data xs))) (drop_all k (map ends pairs) (let e = length-map pairs ends in omega (arith, e)))

pub last_edge : (k : ℕ) (pairs : List Pair) (name text end : List ℕ) → length pairs ≤ k
    → text ++ items_text (nat_lt 0 k) (rest k (map ends pairs)) ≡ codes "{\"edges\":[" ++ items_text false (rest 0 (map ends pairs))
    → end ≡ text ++ (93 ∷ [] ++ tail_text name) → end ≡ solution_text name (map ends pairs)
last_edge k pairs name text end h e n =
    let items = items_text false (rest 0 (map ends pairs)) in
    let whole : text ++ 93 ∷ [] ≡ codes "{\"edges\":[" ++ items = ap (λ xs. text ++ xs) (sym (no_more k pairs h (nat_lt 0 k))) ∙ e in
    n ∙ (sym (append_assoc text (93 ∷ []) (tail_text name)) ∙ (ap (λ xs. xs ++ tail_text name) whole
    ∙ (append_assoc (codes "{\"edges\":[") items (tail_text name) ∙ sym (parts_text name (map ends pairs)))))
