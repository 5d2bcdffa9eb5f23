-- The reading of a written solution is what was written.
use Rattle.std.proofs.Common.{◌≡◌, ℕ, ◌^◌, ◌<◌, ◌≤◌, min, max, List, [], ◌∷◌, length, map, true, false, not, eqb, is_some, Some, None, Ok, filter_map, option_map, All, IsUtf8, refl, ap, ap₂, ◌∙◌, arith, le-leb, lt-ltb, ne_eqb, nat_lt, nat_le}
use Rattle.std.proofs.lemmas.List.{length-map}
use Rattle.json.proofs.Printed.Utf8.{IsUtf8-are_ascii}
use Rattle.serde_json.specs.Data.{depth}
use Rattle.serde_json.specs.View.{items_of}
use Rattle.text_defs.specs.Steps.{◌>>=◌, or_fault}
use Rattle.text_defs.specs.Solutions.{not_json, bad_edge, edge_of, edge_fault, edges_of, edges_in, edges_from}
use Rattle.text_defs.specs.Texts.{edge_data, solution_data, solution_text}
use Rattle.text_defs.proofs.laws.IsPlain.{IsPlain, ItemsArePlain, IsEdge, Each}
use Rattle.text_defs.proofs.laws.PlainTexts.{json_reading-compact_text}
use Rattle.text_defs.proofs.laws.Lists.{list_of-items_of, position_none, Each_map, flat_items, each}

pub edge_back : (n i j : ℕ) → n ≤ 2 ^ 63 → IsEdge n (i, j) → edge_of n (edge_data (i, j)) ≡ Some (i, j)
edge_back n i j small h =
    let a : nat_lt i (2 ^ 63) ≡ true = lt-ltb i (2 ^ 63) (omega (arith, h.0, h.1)) in
    let b : nat_lt j (2 ^ 63) ≡ true = lt-ltb j (2 ^ 63) (omega (arith, h.1)) in
    let c : nat_lt i n ≡ true = lt-ltb i n (omega (arith, h.0, h.1)) in
    let d : nat_lt j n ≡ true = lt-ltb j n h.1 in
    let differ : eqb i j ≡ false = ne_eqb i j (λ e. omega (arith, h.0)) in
    let low : min i j ≡ i = smaller i j h.0 in
    let high : max i j ≡ j = larger i j h.0 in
    rw (a, b) (rw (c, d) (rw differ (ap₂ (λ (x y : ℕ). Some (x, y)) low high)))
  where
    smaller : (i j : ℕ) → i < j → min i j ≡ i
    smaller i j h = grind arith

    larger : (i j : ℕ) → i < j → max i j ≡ j
    larger i j h = grind arith

edges_some : (n : ℕ) (edges : List (ℕ × ℕ)) → n ≤ 2 ^ 63 → Each (IsEdge n) edges → Each (λ d. not (is_some (edge_of n d)) ≡ false) (map edge_data edges)
edges_some n edges small h = Each_map (IsEdge n) (λ d. not (is_some (edge_of n d)) ≡ false) edge_data edges (λ e k. ap (λ o. not (is_some o)) (edge_back n e.0 e.1 small k)) h

edges_back : (n : ℕ) (edges : List (ℕ × ℕ)) → n ≤ 2 ^ 63 → Each (IsEdge n) edges → filter_map (edge_of n) (map edge_data edges) ≡ edges
edges_back n [] small h = refl
edges_back n (e ∷ edges) small h = rw (edge_back n e.0 e.1 small h.0) (ap (λ l. e ∷ l) (edges_back n edges small h.1))

pub edges_in-solution_data : (n : ℕ) (name : List ℕ) (edges : List (ℕ × ℕ)) → n ≤ 2 ^ 63 → length edges ≤ 20000 → Each (IsEdge n) edges
    → edges_in n (solution_data name edges) ≡ Ok edges
unfolding edges_in
edges_in-solution_data n name edges small few h =
    let items = map edge_data edges in
    let fault : edge_fault n items ≡ None = ap (option_map bad_edge) (position_none (λ d. not (is_some (edge_of n d))) items (edges_some n edges small h)) in
    let count : nat_le (length items) 20000 ≡ true = le-leb (length items) 20000 (omega (arith, length-map edges edge_data)) in
    ap (edges_of n) (list_of-items_of items) ∙ rw (count, fault) (ap Ok (edges_back n edges small h))

edge_plain : (n : ℕ) (edges : List (ℕ × ℕ)) → n ≤ 2 ^ 63 → Each (IsEdge n) edges → ItemsArePlain (items_of (map edge_data edges))
edge_plain n [] small h = tt
edge_plain n (e ∷ edges) small h = ((refl, (IsUtf8-are_ascii _ refl, (omega (arith, h.0.0, h.0.1), (IsUtf8-are_ascii _ refl, (omega (arith, h.0.1), tt))))), edge_plain n edges small h.1)

pub solution_plain : (n : ℕ) (name : List ℕ) (edges : List (ℕ × ℕ)) → n ≤ 2 ^ 63 → Each (IsEdge n) edges → IsUtf8 name → IsPlain (solution_data name edges)
solution_plain n name edges small h u = (refl, (IsUtf8-are_ascii _ refl, (edge_plain n edges small h, (IsUtf8-are_ascii _ refl, (u, (IsUtf8-are_ascii _ refl, (IsUtf8-are_ascii _ refl, tt)))))))

edge_flat : (edges : List (ℕ × ℕ)) → Each (λ d. depth d ≤ 1) (map edge_data edges)
edge_flat [] = tt
edge_flat (e ∷ edges) = (omega arith, edge_flat edges)

pub solution_shallow : (name : List ℕ) (edges : List (ℕ × ℕ)) → depth (solution_data name edges) ≤ 64
solution_shallow name edges = let k = flat_items (map edge_data edges) (edge_flat edges) in grind (arith, k)

-- The reading of a written solution is what was written.
pub edges_from-solution_text : (n : ℕ) (name : List ℕ) (edges : List (ℕ × ℕ)) → n ≤ 2 ^ 63 → IsUtf8 name → length edges ≤ 20000 → All (IsEdge n) edges
    → edges_from n (solution_text name edges) ≡ Ok edges
unfolding edges_from solution_text
edges_from-solution_text n name edges small u few h =
    ap (λ r. or_fault not_json r >>= edges_in n) (json_reading-compact_text (solution_data name edges) (solution_plain n name edges small (each (IsEdge n) edges h) u) (solution_shallow name edges))
    ∙ edges_in-solution_data n name edges small few (each (IsEdge n) edges h)
