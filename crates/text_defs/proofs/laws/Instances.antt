-- The reading of a written instance is what was written.
use Rattle.std.proofs.Common.{◌≡◌, ℕ, zero, suc, ◌+◌, ◌^◌, ◌<◌, ◌≤◌, List, [], ◌∷◌, length, map, take, get_or, true, false, cond, not, ℤ, pos, negsuc, Some, None, Ok, option_map, find, All, IsUtf8, refl, sym, ap, ◌∙◌, arith, le-leb, lt-ltb, ne_eqb, eq-eqb, nat_lt, subst}
use Rattle.std.specs.List.{slice_get, enumerate_from, list_any, range_with_len}
use Rattle.std.proofs.lemmas.List.{length-map}
use Rattle.std.proofs.lemmas.List.FromFn.{length-enumerate_from}
use Rattle.std.specs.Prelude.{unwrap_or}
use Rattle.json.proofs.Printed.Utf8.{IsUtf8-are_ascii}
use Rattle.serde_json.specs.Data.{Data, null, depth}
use Rattle.serde_json.specs.Find.{of_integer, as_i64}
use Rattle.serde_json.specs.View.{items_of}
use Rattle.text_defs.specs.Steps.{◌>>=◌, or_fault, unless}
use Rattle.text_defs.specs.Instances.{not_json, name_in, is_point, point_fault, not_whole, bad_point, has_both, has_index, is_indexed, differs, mixed_fault, mixed_index, index_in, has_this_index, has_bad_index, index_fault, bad_index, points_fault, point_of, item_of_index, points_of, points_in, instance_in, instance_from}
use Rattle.text_defs.specs.Fields.{item_at}
use Rattle.text_defs.specs.Costs.{CostItem, costs_in}
use Rattle.text_defs.specs.Texts.{point_data, with_costs, instance_data, instance_text}
use Rattle.text_defs.proofs.laws.Costs.{AreApart, costs_in-with_costs, name_in-with_costs, points_in-with_costs, with_costs-plain, with_costs-depth}
use Rattle.text_defs.proofs.laws.IsPlain.{IsWhole64, IsPlain, ItemsArePlain, IsPlace, IsCosted, Each}
use Rattle.text_defs.proofs.laws.PlainTexts.{json_reading-compact_text}
use Rattle.text_defs.proofs.laws.Lists.{list_of-items_of, position_none, range_back, range_each, flat_items, each, each_at}

-- the points from place k on, as they are written
abbrev items_from : ℕ → List (ℤ × ℤ) → List Data
items_from k points = map point_data (enumerate_from k points)

whole_back : (z : ℤ) → IsWhole64 (of_integer z) → as_i64 (of_integer z) ≡ Some z
whole_back (pos n) h = rw (lt-ltb n (2 ^ 63) h) refl
whole_back (negsuc n) h = refl

point_is : (k : ℕ) (p : ℤ × ℤ) → IsPlace p → (is_point (point_data (k, p)) ≡ true) × (point_of (point_data (k, p)) ≡ p)
point_is k p h =
    let a = whole_back p.0 h.0 in
    let b = whole_back p.1 h.1 in
    (rw (a, b) refl, rw (a, b) refl)

index_is : (n k : ℕ) (p : ℤ × ℤ) → n ≤ 2 ^ 63 → k < n → index_in n (point_data (k, p)) ≡ Some k
index_is n k p small h =
    let a : nat_lt k (2 ^ 63) ≡ true = lt-ltb k (2 ^ 63) (omega arith) in
    let b : nat_lt k n ≡ true = lt-ltb k n h in
    rw a (rw b refl)

items_each : (P : Data → Type 0) (k n : ℕ) (points : List (ℤ × ℤ)) → k + length points ≤ n → Each IsPlace points → ((j : ℕ) (p : ℤ × ℤ) → j < n → IsPlace p → P (point_data (j, p))) → Each P (items_from k points)
items_each P k n [] l h f = tt
items_each P k n (p ∷ points) l h f = (f k p (omega arith) h.0, items_each P (k + 1) n points (omega arith) h.1 f)

find_item : (n k m : ℕ) (points : List (ℤ × ℤ)) → n ≤ 2 ^ 63 → k + length points ≤ n → m < length points
    → find (has_this_index n (k + m)) (items_from k points) ≡ Some (point_data (k + m, get_or points m (pos 0, pos 0)))
find_item n k m [] small l h = absurd (omega arith)
find_item n k zero (p ∷ points) small l h =
    let here : k + 0 ≡ k = omega arith in
    rw here (rw (index_is n k p small (omega arith)) (rw (eq-eqb k k refl) refl))
find_item n k (suc m) (p ∷ points) small l h =
    let next : k + suc m ≡ (k + 1) + m = omega arith in
    let later = subst (λ i. find (has_this_index n i) (items_from (k + 1) points) ≡ Some (point_data (i, get_or points m (pos 0, pos 0)))) (sym next) (find_item n (k + 1) m points small (omega arith) (omega arith)) in
    rw (index_is n k p small (omega arith)) (rw (ne_eqb (k + suc m) k (λ e. omega arith)) later)

not_before : (n k m i : ℕ) (points : List (ℤ × ℤ)) → n ≤ 2 ^ 63 → k + length points ≤ n → k + m ≤ i → i < n → list_any (has_this_index n i) (take m (items_from k points)) ≡ false
not_before n k zero i [] small l h b = refl
not_before n k (suc m) i [] small l h b = refl
not_before n k zero i (p ∷ points) small l h b = refl
not_before n k (suc m) i (p ∷ points) small l h b =
    rw (index_is n k p small (omega arith)) (rw (ne_eqb i k (λ e. omega arith)) (not_before n (k + 1) m i points small (omega arith) (omega arith) b))

item_here : (k m : ℕ) (points : List (ℤ × ℤ)) → m < length points → slice_get (items_from k points) m ≡ Some (point_data (k + m, get_or points m (pos 0, pos 0)))
item_here k m [] h = absurd (omega arith)
item_here k zero (p ∷ points) h = let here : k ≡ k + 0 = omega arith in ap (λ i. Some (point_data (i, p))) here
item_here k (suc m) (p ∷ points) h =
    let next : (k + 1) + m ≡ k + suc m = omega arith in
    item_here (k + 1) m points (omega arith) ∙ ap (λ i. Some (point_data (i, get_or points m (pos 0, pos 0)))) next

item_at_here : (m : ℕ) (points : List (ℤ × ℤ)) → m < length points → item_at (items_from 0 points) m ≡ point_data (m, get_or points m (pos 0, pos 0))
item_at_here m points h = let here : 0 + m ≡ m = omega arith in ap (λ o. unwrap_or o null) (item_here 0 m points h) ∙ ap (λ i. point_data (i, get_or points m (pos 0, pos 0))) here

items_len : (points : List (ℤ × ℤ)) → length (items_from 0 points) ≡ length points
items_len points = length-map (enumerate_from 0 points) point_data ∙ length-enumerate_from 0 points

all_points : (points : List (ℤ × ℤ)) → Each IsPlace points → point_fault (items_from 0 points) ≡ None
all_points points h =
    let items = items_from 0 points in
    ap (option_map (λ k. cond (has_both (item_at items k)) (not_whole k) (bad_point k)))
    (position_none (λ d. not (is_point d)) items (items_each (λ d. not (is_point d) ≡ false) 0 (length points) points (omega arith) h (λ j p l k. ap not (point_is j p k).0)))

all_indexed : (points : List (ℤ × ℤ)) → Each IsPlace points → mixed_fault (items_from 0 points) ≡ None
all_indexed [] h = refl
all_indexed (p ∷ points) h =
    let items = items_from 0 (p ∷ points) in
    ap (option_map mixed_index) (position_none (λ d. differs (is_indexed items) (has_index d)) items
    (items_each (λ d. differs true (has_index d) ≡ false) 0 (length (p ∷ points)) (p ∷ points) (omega arith) h (λ j q l k. refl)))

-- each place's index is the place
good_indexes : (points : List (ℤ × ℤ)) → length points ≤ 2 ^ 63 → index_fault (items_from 0 points) ≡ None
good_indexes points small =
    let items = items_from 0 points in
    let n = length items in
    let same = items_len points in
    let here : (j : ℕ) → j < n → has_bad_index items (0 + j) ≡ false = λ j l.
    let m : j < length points = omega (arith, same) in
    let z : 0 + j ≡ j = omega arith in
    let i : index_in n (item_at items j) ≡ Some j = ap (index_in n) (item_at_here j points m) ∙ index_is n j (get_or points j (pos 0, pos 0)) (omega (arith, same)) l in
    ap (has_bad_index items) z ∙ ap (λ o. unwrap_or (option_map (λ i. list_any (has_this_index n i) (take j items)) o) true) i
    ∙ not_before n 0 j j points (omega (arith, same)) (omega (arith, same)) (omega arith) l in
    ap (option_map bad_index) (position_none (has_bad_index items) (range_with_len 0 n) (range_each (λ k. has_bad_index items k ≡ false) 0 n here))

no_fault : (points : List (ℤ × ℤ)) → Each IsPlace points → length points ≤ 2 ^ 63 → points_fault (items_from 0 points) ≡ None
no_fault [] h small = refl
no_fault (p ∷ points) h small = rw (all_points (p ∷ points) h) (rw (all_indexed (p ∷ points) h) (rw (good_indexes (p ∷ points) small) refl))

points_back : (points : List (ℤ × ℤ)) → Each IsPlace points → length points ≤ 2 ^ 63 → points_of (items_from 0 points) ≡ points
points_back [] h small = refl
points_back (p ∷ points) h small =
    let all = p ∷ points in
    let items = items_from 0 all in
    let same = items_len all in
    let f : ℕ → ℤ × ℤ = λ i. point_of (item_of_index items i) in
    let here : (j : ℕ) → j < length all → f (0 + j) ≡ get_or all j (pos 0, pos 0) = λ j l.
    ap (λ o. point_of (unwrap_or o null)) (find_item (length items) 0 j all (omega (arith, same)) (omega (arith, same)) l)
    ∙ (point_is (0 + j) (get_or all j (pos 0, pos 0)) (each_at IsPlace all (pos 0, pos 0) h j l)).1 in
    ap (λ n. map f (range_with_len 0 n)) same ∙ range_back f (pos 0, pos 0) 0 all here

pub points_in-instance_data : (name : List ℕ) (points : List (ℤ × ℤ)) → Each IsPlace points → length points ≤ 2 ^ 63 → points_in (instance_data name points) ≡ Ok points
unfolding points_in
points_in-instance_data name points h small =
    ap (λ items. unless (points_fault items) (points_of items)) (list_of-items_of (items_from 0 points))
    ∙ (ap (λ o. unless o (points_of (items_from 0 points))) (no_fault points h small) ∙ ap Ok (points_back points h small))

name_in-instance_data : (name : List ℕ) (points : List (ℤ × ℤ)) → length name ≤ 1000 → name_in (instance_data name points) ≡ Ok name
name_in-instance_data name points h = rw (le-leb (length name) 1000 h) refl

point_plain : (k n : ℕ) (points : List (ℤ × ℤ)) → k + length points ≤ n → n ≤ 2 ^ 63 → Each IsPlace points → ItemsArePlain (items_of (items_from k points))
point_plain k n [] l small h = tt
point_plain k n (p ∷ points) l small h =
    ((refl, (IsUtf8-are_ascii _ refl, (omega arith, (IsUtf8-are_ascii _ refl, (h.0.0, (IsUtf8-are_ascii _ refl, (h.0.1, tt))))))), point_plain (k + 1) n points (omega arith) small h.1)

pub instance_plain : (name : List ℕ) (points : List (ℤ × ℤ)) → IsUtf8 name → length points ≤ 2 ^ 63 → Each IsPlace points → IsPlain (instance_data name points)
instance_plain name points u small h = (refl, (IsUtf8-are_ascii _ refl, (u, (IsUtf8-are_ascii _ refl, (point_plain 0 (length points) points (omega arith) small h, tt)))))

point_flat : (k : ℕ) (points : List (ℤ × ℤ)) → Each (λ d. depth d ≤ 1) (items_from k points)
point_flat k [] = tt
point_flat k (p ∷ points) = (omega arith, point_flat (k + 1) points)

pub instance_shallow : (name : List ℕ) (points : List (ℤ × ℤ)) → depth (instance_data name points) ≤ 64
instance_shallow name points = let k = flat_items (items_from 0 points) (point_flat 0 points) in grind (arith, k)

parts_in : (d : Data) (name : List ℕ) (points : List (ℤ × ℤ)) (D : List CostItem) → name_in d ≡ Ok name → points_in d ≡ Ok points → costs_in (length points) d ≡ Ok D → instance_in d ≡ Ok (name, points, Ok D)
unfolding instance_in
parts_in d name points D p q r = rw (p, q, r) refl

-- The reading of a written instance is what was written.
pub instance_from-instance_text : (D : List CostItem) (name : List ℕ) (points : List (ℤ × ℤ)) → IsUtf8 name → length name ≤ 1000 → length points ≤ 2 ^ 63 → All IsPlace points
    → length D ≤ 300000 → All (IsCosted (length points)) D → AreApart D → instance_from (instance_text D name points) ≡ Ok (name, points, Ok D)
unfolding instance_from instance_text
instance_from-instance_text D name points u short small h few costs apart =
    let e = each IsPlace points h in
    let f = each (IsCosted (length points)) D costs in
    let d = with_costs D (instance_data name points) in
    ap (λ r. or_fault not_json r >>= instance_in) (json_reading-compact_text d (with_costs-plain (length points) D name points small f (instance_plain name points u small e)) (with_costs-depth D name points (instance_shallow name points)))
    ∙ parts_in d name points D (name_in-with_costs D name points ∙ name_in-instance_data name points short) (points_in-with_costs D name points ∙ points_in-instance_data name points e small) (costs_in-with_costs (length points) D name points small few f apart)
