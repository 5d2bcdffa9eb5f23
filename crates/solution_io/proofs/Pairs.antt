-- The pairs of items, and the answer to a text from the answer to its parts.
use Rattle.std.proofs.Common.{◌≡◌, ℕ, ◌+◌, ◌<◌, ◌≤◌, List, [], ◌∷◌, ◌++◌, length, map, take, get_or, nat_le, not, Option, Some, None, is_some, Result, Ok, Err, Bool, true, false, Vec, Global, codes, refl, sym, ap, ◌∙◌, subst, arith}
use Rattle.std.specs.List.{filter_map, cons_option}
use Rattle.std.proofs.lemmas.List.{length-map, map-append, take_more, take_all}
use Rattle.serde_json.specs.Data.{Data, null}
use Rattle.serde_json.specs.View.{view, items_view}
use Rattle.serde_json.specs.declared.value.Value.{Value}
use Rattle.plane.specs.declared.segment.Pair.{Pair}
use Rattle.text_defs.specs.Reading.{json_reading}
use Rattle.text_defs.specs.Fields.{array_at}
use Rattle.text_defs.specs.Solutions.{not_json, no_edges, too_many_edges, bad_edge, edge_of, edges_of, edges_in, edges_from}
use Rattle.json_text.proofs.Laws.{NoneBefore, view-at, position-item, position-no_item, filter_map-push}
use Rattle.text_defs.proofs.laws.Lists.{list_of-items_of}
use Rattle.solution_io.specs.Refusal.{HasFault, IsRead}
use Rattle.instance_io.specs.Refusal.{ends}
use Rattle.solution_io.specs.declared.fault.SolutionFault.{SolutionFault}

abbrev pub is_no_edge : ℕ → Data → Bool
is_no_edge n d = not (is_some (edge_of n d))

few : (vs : List Value) → length vs ≤ 20000 → nat_le (length (map view vs)) 20000 ≡ true
few vs h = let e = length-map vs view in grind (arith, e)

no_edge : (n : ℕ) (d : Data) → None ≡ edge_of n d → is_no_edge n d ≡ true
no_edge n d e = ap (λ o. not (is_some o)) (sym e)

pub an_edge : (n : ℕ) (d : Data) (p : Pair) → Some (ends p) ≡ edge_of n d → is_no_edge n d ≡ false
an_edge n d p e = ap (λ o. not (is_some o)) (sym e)

pub edge_missing : (n : ℕ) (vs : List Value) (k : ℕ) (v : Value) → length vs ≤ 20000 → k < length vs → v ≡ get_or vs k v → NoneBefore (is_no_edge n) (map view vs) k
    → None ≡ edge_of n (view v) → edges_of n (map view vs) ≡ Err (bad_edge k)
edge_missing n vs k v f h e b q =
    let place = position-item (is_no_edge n) vs k v h e b (no_edge n (view v) q) in
    rw (few vs f, place) refl

pub edges_more : (n : ℕ) (pairs : List Pair) (p : Pair) (vs : List Value) (k : ℕ) (v : Value) → k < length vs → v ≡ get_or vs k v
    → map ends pairs ≡ filter_map (edge_of n) (take k (map view vs)) → Some (ends p) ≡ edge_of n (view v)
    → map ends (pairs ++ p ∷ []) ≡ filter_map (edge_of n) (take (k + 1) (map view vs))
edges_more n pairs p vs k v h e s q =
    let more : take (k + 1) (map view vs) ≡ take k (map view vs) ++ view v ∷ [] =
    take_more (map view vs) k null (rw (length-map vs view) h) ∙ ap (λ d. take k (map view vs) ++ d ∷ []) (view-at vs k v h e) in
    map-append ends pairs (p ∷ []) ∙ (ap (λ xs. xs ++ ends p ∷ []) s
    ∙ (sym (filter_map-push (edge_of n) (take k (map view vs)) (view v) (ends p) (sym q)) ∙ ap (filter_map (edge_of n)) (sym more)))

pub all_edges : (n : ℕ) (pairs : List Pair) (vs : List Value) (k : ℕ) → length vs ≤ 20000 → length vs ≤ k → NoneBefore (is_no_edge n) (map view vs) k
    → map ends pairs ≡ filter_map (edge_of n) (take k (map view vs)) → edges_of n (map view vs) ≡ Ok (map ends pairs)
all_edges n pairs vs k f h b s =
    let place = position-no_item (is_no_edge n) vs k h b in
    let all : filter_map (edge_of n) (map view vs) ≡ map ends pairs =
    ap (filter_map (edge_of n)) (sym (take_all k (map view vs) (let e = length-map vs view in omega (arith, e)))) ∙ sym s in
    rw (few vs f, place, all) refl

-- ---- the value and the text

pub no_array : (n : ℕ) (d : Data) → None ≡ array_at (codes "edges") d → edges_in n d ≡ Err no_edges
unfolding edges_in
no_array n d h = rw (← h) refl

of_array : (n : ℕ) (d : Data) (vs : List Value) → Some (items_view vs) ≡ array_at (codes "edges") d → edges_in n d ≡ edges_of n (map view vs)
unfolding edges_in
of_array n d vs h = rw (← h, list_of-items_of (map view vs)) refl

pub array_answer : (n : ℕ) (d : Data) (vs : List Value) (result : Result (Vec Pair Global) SolutionFault) → Some (items_view vs) ≡ array_at (codes "edges") d
    → IsRead (edges_of n (map view vs)) result → IsRead (edges_in n d) result
array_answer n d vs result h e = subst (λ r. IsRead r result) (sym (of_array n d vs h)) e

pub too_many_answer : (n : ℕ) (d : Data) (vs : List Value) (fault : SolutionFault) → Some (items_view vs) ≡ array_at (codes "edges") d → 20000 < length vs
    → HasFault (Err (too_many_edges (length vs))) fault → HasFault (edges_in n d) fault
too_many_answer n d vs fault h l e =
    let count = length-map vs view in
    let many : nat_le (length (map view vs)) 20000 ≡ false = grind (arith, count) in
    let all : edges_of n (map view vs) ≡ Err (too_many_edges (length vs)) = rw many (ap (λ c. Err (too_many_edges c)) count) in
    subst (λ r. HasFault r fault) (sym (of_array n d vs h ∙ all)) e

from_read : (n : ℕ) (bytes : List ℕ) (d : Data) → json_reading bytes ≡ Some d → edges_from n bytes ≡ edges_in n d
unfolding edges_from
from_read n bytes d e = rw e refl

pub from_refused : (n : ℕ) (bytes : List ℕ) → json_reading bytes ≡ None → edges_from n bytes ≡ Err not_json
unfolding edges_from
from_refused n bytes e = rw e refl

pub read_answer : (n : ℕ) (bytes : List ℕ) (d : Data) (result : Result (Vec Pair Global) SolutionFault) → json_reading bytes ≡ Some d → IsRead (edges_in n d) result → IsRead (edges_from n bytes) result
read_answer n bytes d result e h = subst (λ r. IsRead r result) (sym (from_read n bytes d e)) h
