-- The costs of a written instance are read as what was written.
use Rattle.std.proofs.Common.{◌≡◌, ℕ, zero, suc, ◌+◌, ◌^◌, ◌<◌, ◌≤◌, min, max, List, [], ◌∷◌, length, map, take, get_or, true, false, eqb, ℤ, Some, None, Option, Ok, option_map, option_and_then, unwrap_or, filter_map, refl, ap, ap₂, ◌∙◌, arith, le-leb, lt-ltb, ne_eqb, nat_lt, nat_le, subst}
use Rattle.std.specs.List.{list_any, range_with_len, AllPairs}
use Rattle.std.proofs.lemmas.List.{length-map, get_or-map}
use Rattle.json.proofs.Printed.Utf8.{IsUtf8-are_ascii}
use Rattle.serde_json.specs.Data.{null, depth, items_depth}
use Rattle.serde_json.specs.View.{items_of}
use Rattle.text_defs.specs.Fields.{whole_below, pair_of, item_at}
use Rattle.text_defs.specs.Instances.{points_in, name_in}
use Rattle.text_defs.specs.Costs.{CostItem, bad_cost, whole_pair, cost_of, is_same_pair, has_this_pair, has_bad_cost, cost_fault, costs_of, costs_in}
use Rattle.text_defs.specs.Texts.{index_data, cost_data, with_costs, instance_data}
use Rattle.text_defs.proofs.laws.IsPlain.{IsPlain, ItemsArePlain, IsCosted, Each}
use Rattle.text_defs.proofs.laws.Lists.{list_of-items_of, item_at-get_or, position_none, range_each, each_at}

index_back : (n i : ℕ) → n ≤ 2 ^ 63 → i < n → whole_below n (index_data i) ≡ Some i
index_back n i small h =
    let a : nat_lt i (2 ^ 63) ≡ true = lt-ltb i (2 ^ 63) (omega arith) in
    let b : nat_lt i n ≡ true = lt-ltb i n h in
    rw a (rw b refl)

pub cost_back : (n : ℕ) (x : CostItem) → n ≤ 2 ^ 63 → IsCosted n x → cost_of n (cost_data x) ≡ Some x
cost_back n ((i, j), w) small h =
    let below : i < n = omega (arith, h.0.0, h.0.1) in
    let differ : eqb i j ≡ false = ne_eqb i j (λ e. omega (arith, h.0.0)) in
    let two : whole_pair n (index_data i) (index_data j) ≡ Some (i, j) =
    ap₂ (λ (a b : Option ℕ). option_and_then (λ i. option_and_then (pair_of i) b) a) (index_back n i small below) (index_back n j small h.0.1)
    ∙ rw differ (ap₂ (λ (x y : ℕ). Some (x, y)) (smaller i j h.0.0) (larger i j h.0.0)) in
    ap (option_and_then (λ e. option_map (λ w. (e, w)) (whole_below 1001 (index_data w)))) two ∙ ap (option_map (λ w. ((i, j), w))) (index_back 1001 w (omega arith) (omega (arith, h.1)))
  where
    smaller : (i j : ℕ) → i < j → min i j ≡ i
    smaller i j h = grind arith

    larger : (i j : ℕ) → i < j → max i j ≡ j
    larger i j h = grind arith

-- no pair of the list stands twice
abbrev pub AreApart : List CostItem → Type 0
AreApart D = AllPairs (λ x y. is_same_pair y.0 x.0 ≡ false) D

not_before : (n j : ℕ) (e : ℕ × ℕ) (D : List CostItem) → n ≤ 2 ^ 63 → Each (IsCosted n) D → ((i : ℕ) (d : CostItem) → i < j → i < length D → is_same_pair e (get_or D i d).0 ≡ false)
    → list_any (has_this_pair n e) (take j (map cost_data D)) ≡ false
not_before n zero e [] small h a = refl
not_before n (suc j) e [] small h a = refl
not_before n zero e (x ∷ D) small h a = refl
not_before n (suc j) e (x ∷ D) small h a =
    rw (cost_back n x small h.0) (rw (a 0 x (omega arith) (omega arith)) (not_before n j e D small h.1 (λ i d l m. a (suc i) d (omega arith) (omega arith))))

item_here : (D : List CostItem) (j : ℕ) (d : CostItem) → j < length D → item_at (map cost_data D) j ≡ cost_data (get_or D j d)
item_here D j d h = item_at-get_or (map cost_data D) j ∙ get_or-map cost_data D j d null h

none_bad : (n : ℕ) (D : List CostItem) → n ≤ 2 ^ 63 → Each (IsCosted n) D → AreApart D → cost_fault n (map cost_data D) ≡ None
none_bad n D small h a =
    let items = map cost_data D in
    let same = length-map D cost_data in
    let x : CostItem = ((0, 0), 0) in
    let here : (j : ℕ) → j < length items → has_bad_cost n items (0 + j) ≡ false = λ j l.
    let m : j < length D = omega (arith, same) in
    let z : 0 + j ≡ j = omega arith in
    let i : cost_of n (item_at items j) ≡ Some (get_or D j x) = ap (cost_of n) (item_here D j x m) ∙ cost_back n (get_or D j x) small (each_at (IsCosted n) D x h j m) in
    ap (has_bad_cost n items) z ∙ ap (λ o. unwrap_or (option_map (λ y. list_any (has_this_pair n y.0) (take j items)) o) true) i
    ∙ not_before n j (get_or D j x).0 D small h (λ k d b c. subst (λ (p : ℕ × ℕ). is_same_pair p (get_or D k d).0 ≡ false) (ap (λ (y : CostItem). y.0) (fall D j d x m)) (a k j d b m)) in
    ap (option_map bad_cost) (position_none (has_bad_cost n items) (range_with_len 0 (length items)) (range_each (λ k. has_bad_cost n items k ≡ false) 0 (length items) here))
  where
    -- within the list the default doesn't matter
    fall : (D : List CostItem) (j : ℕ) (d x : CostItem) → j < length D → get_or D j d ≡ get_or D j x
    fall [] j d x h = absurd (omega (arith, h))
    fall (y ∷ D) zero d x h = refl
    fall (y ∷ D) (suc j) d x h = fall D j d x (omega arith)

costs_back : (n : ℕ) (D : List CostItem) → n ≤ 2 ^ 63 → Each (IsCosted n) D → filter_map (cost_of n) (map cost_data D) ≡ D
costs_back n [] small h = refl
costs_back n (x ∷ D) small h = rw (cost_back n x small h.0) (ap (λ l. x ∷ l) (costs_back n D small h.1))

-- The costs of a written instance are read as what was written.
pub costs_in-with_costs : (n : ℕ) (D : List CostItem) (name : List ℕ) (points : List (ℤ × ℤ)) → n ≤ 2 ^ 63 → length D ≤ 300000 → Each (IsCosted n) D → AreApart D
    → costs_in n (with_costs D (instance_data name points)) ≡ Ok D
unfolding costs_in
costs_in-with_costs n [] name points small few h a = refl
costs_in-with_costs n (x ∷ D) name points small few h a =
    let items = map cost_data (x ∷ D) in
    let count : nat_le (length items) 300000 ≡ true = le-leb (length items) 300000 (omega (arith, few, length-map (x ∷ D) cost_data)) in
    ap (costs_of n) (list_of-items_of items) ∙ rw count (rw (none_bad n (x ∷ D) small h a) (ap Ok (costs_back n (x ∷ D) small h)))

-- the name and the points are read as without costs
pub name_in-with_costs : (D : List CostItem) (name : List ℕ) (points : List (ℤ × ℤ)) → name_in (with_costs D (instance_data name points)) ≡ name_in (instance_data name points)
name_in-with_costs [] name points = refl
name_in-with_costs (x ∷ D) name points = refl

pub points_in-with_costs : (D : List CostItem) (name : List ℕ) (points : List (ℤ × ℤ)) → points_in (with_costs D (instance_data name points)) ≡ points_in (instance_data name points)
unfolding points_in
points_in-with_costs [] name points = refl
points_in-with_costs (x ∷ D) name points = refl

costs_plain : (n : ℕ) (D : List CostItem) → n ≤ 2 ^ 63 → Each (IsCosted n) D → ItemsArePlain (items_of (map cost_data D))
costs_plain n [] small h = tt
costs_plain n (x ∷ D) small h = ((omega (arith, h.0.0.0, h.0.0.1), (omega (arith, h.0.0.1), (omega (arith, h.0.1), tt))), costs_plain n D small h.1)

costs_depth : (D : List CostItem) → items_depth (items_of (map cost_data D)) ≤ 1
costs_depth [] = omega arith
costs_depth (x ∷ D) = let b = costs_depth D in grind (arith, b)

-- an instance with costs is plain and shallow where it is without
pub with_costs-plain : (n : ℕ) (D : List CostItem) (name : List ℕ) (points : List (ℤ × ℤ)) → n ≤ 2 ^ 63 → Each (IsCosted n) D → IsPlain (instance_data name points) → IsPlain (with_costs D (instance_data name points))
with_costs-plain n [] name points small h p = p
with_costs-plain n (x ∷ D) name points small h p = (refl, (IsUtf8-are_ascii _ refl, (costs_plain n (x ∷ D) small h, p.1)))

pub with_costs-depth : (D : List CostItem) (name : List ℕ) (points : List (ℤ × ℤ)) → depth (instance_data name points) ≤ 64 → depth (with_costs D (instance_data name points)) ≤ 64
with_costs-depth [] name points a = a
with_costs-depth (x ∷ D) name points a = let b = costs_depth (x ∷ D) in grind (arith, a, b)
