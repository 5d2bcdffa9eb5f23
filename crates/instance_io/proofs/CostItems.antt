-- The items of costs: what is found among those that were read, and the list of costs that they make.
use Rattle.std.proofs.Common.{◌≡◌, ◌≢◌, ℕ, zero, suc, ◌+◌, ◌<◌, ◌≤◌, List, [], ◌∷◌, ◌++◌, length, map, take, get_or, Bool, true, false, cond, ◌||◌, Option, Some, None, option_map, unwrap_or, is_some, Result, Ok, Err, refl, sym, ap, ◌∙◌, subst, arith, inl, inr, filter, filter_map, option_and_then, nat_le, IfSome, MatchResult, codes, ℤ, pos, negsuc}
use Rattle.std.specs.List.{list_any, cons_option, All, AllPairs, AllByRecursion, range_with_len}
use Rattle.std.specs.List.Sorted.{IsStrictlySortedBy}
use Rattle.std.specs.Map.{lookup, keys_of}
use Rattle.std.specs.BTreeMap.{BTreeMap, is_at, get, IsOrdered}
use Rattle.std.specs.declared.cmp.Ordering.TheVariants.{Less, Equal}
use Rattle.std.proofs.lemmas.Bool.Decides.{nat_tests}
use Rattle.std.proofs.lemmas.List.{take_more, take_all, length-map}
use Rattle.std.proofs.lemmas.Map.Entries.{All-lookup}
use Rattle.std.proofs.lemmas.Map.Views.{All-found}
use Rattle.std.proofs.lemmas.List.FromFn.{length-range_with_len, get_or-range_with_len}
use Rattle.serde_json.specs.Data.{Data, null}
use Rattle.serde_json.specs.View.{view, items_view}
use Rattle.serde_json.specs.declared.value.Value.{Value}
use Rattle.plane.specs.declared.segment.Pair.{Pair}
use Rattle.plane.proofs.laws.Pairs.{pair_same}
use Rattle.cost_defs.specs.Costs.{Costed, IsCostedBefore, has_ends, cost}
use Rattle.cost_defs.proofs.Laws.{pair_cmp, pair_total, pair_cmp-equal_lo, pair_cmp-equal_hi, pair_cmp-less, cost-absent}
use Rattle.serde_json.specs.Find.{as_array, get as get_key}
use Rattle.text_defs.specs.Whole.{whole}
use Rattle.text_defs.specs.Fields.{list_of, whole_below, below}
use Rattle.text_defs.specs.Costs.{CostItem, bad_costs, too_many_costs, bad_cost, costs_in, whole_pair, cost_in, cost_of, is_same_pair, has_this_pair, has_bad_cost, cost_fault, costs_of}
use Rattle.text_defs.proofs.laws.Lists.{list_of-items_of, item_at-get_or}
use Rattle.json_text.proofs.Laws.{position-found, position-none, below_next, filter_map-push}
use Rattle.instance_io.specs.Refusal.{ends, cost_item, AreCostsOf}
use Rattle.instance_io.specs.Reading.{is_listed, GivesCosts}
use Rattle.instance_io.specs.Told.{TellsCosts, error}
use Rattle.instance_io.specs.declared.instances.InstanceFault.{InstanceFault}
use Rattle.instance_io.proofs.Places.{below_bound, range_at, index_bound}
use Rattle.std.proofs.lemmas.Option.{same_Some}

-- ---- what is found among the items

-- whether a pair stands among items is whether it is found among what they give
any-lookup : (n : ℕ) (e : ℕ × ℕ) (ds : List Data) → list_any (has_this_pair n e) ds ≡ is_some (lookup (is_same_pair e) (filter_map (cost_of n) ds))
any-lookup n e [] = refl
any-lookup n e (d ∷ ds) =
    elim (cost_of n d) as (λ o. (unwrap_or (option_map (λ x. is_same_pair e x.0) o) false || list_any (has_this_pair n e) ds) ≡ is_some (lookup (is_same_pair e) (cons_option o (filter_map (cost_of n) ds)))) [
      | None ↦ any-lookup n e ds
      | Some x ↦ elim (is_same_pair e x.0) as (λ b. (b || list_any (has_this_pair n e) ds) ≡ is_some (cond b (Some x.1) (lookup (is_same_pair e) (filter_map (cost_of n) ds)))) [
        | true ↦ refl
        | false ↦ any-lookup n e ds
      ]
    ]

lookup-push_other : {K X : Type 0} (t : K → Bool) (xs : List (K × X)) (x : K × X) → t x.0 ≡ false → lookup t (xs ++ x ∷ []) ≡ lookup t xs
lookup-push_other t [] x h = rw h refl
lookup-push_other t (y ∷ xs) x h = ap (λ o. cond (t y.0) (Some y.1) o) (lookup-push_other t xs x h)

lookup-push_new : {K X : Type 0} (t : K → Bool) (xs : List (K × X)) (x : K × X) → t x.0 ≡ true → lookup t xs ≡ None → lookup t (xs ++ x ∷ []) ≡ Some x.1
lookup-push_new t [] x h e = rw h refl
lookup-push_new t (y ∷ xs) x h e =
    elim (t y.0) as (λ b. cond b (Some y.1) (lookup t xs) ≡ None → cond b (Some y.1) (lookup t (xs ++ x ∷ [])) ≡ Some x.1) [
      | true ↦ λ e. absurd (grind (arith, e))
      | false ↦ λ e. lookup-push_new t xs x h e
    ] e

-- what is kept of the first k items: none is bad, and a map has what they give
pub record IsTaken (n : ℕ) (ds : List Data) (k : ℕ) (found : Pair → Option ℕ) : Type 0 where
  pub good : (j : ℕ) → j < k → has_bad_cost n ds j ≡ false
  pub same : (e : Pair) → found e ≡ lookup (is_same_pair (ends e)) (filter_map (cost_of n) (take k ds))

pub taken_none : (n : ℕ) (ds : List Data) (found : Pair → Option ℕ) → ((e : Pair) → found e ≡ None) → IsTaken n ds 0 found
taken_none n ds found h = record { good = λ j l. absurd (omega arith); same = λ e. h e }

-- whether the item at k is bad
bad_at : (n : ℕ) (ds : List Data) (k : ℕ) (d : Data) → get_or ds k null ≡ d → has_bad_cost n ds k ≡ unwrap_or (option_map (λ x. list_any (has_this_pair n x.0) (take k ds)) (cost_of n d)) true
bad_at n ds k d h = ap (λ c. unwrap_or (option_map (λ x. list_any (has_this_pair n x.0) (take k ds)) (cost_of n c)) true) (item_at-get_or ds k ∙ h)

pub bad_if_none : (n : ℕ) (ds : List Data) (k : ℕ) (d : Data) → get_or ds k null ≡ d → None ≡ cost_of n d → has_bad_cost n ds k ≡ true
bad_if_none n ds k d h e = bad_at n ds k d h ∙ rw (← e) refl

bad_by_found : (n : ℕ) (ds : List Data) (k : ℕ) (d : Data) (e : Pair) (c : ℕ) (found : Pair → Option ℕ) → get_or ds k null ≡ d → Some (cost_item (e, c)) ≡ cost_of n d → IsTaken n ds k found → has_bad_cost n ds k ≡ is_some (found e)
bad_by_found n ds k d e c found h q t = bad_at n ds k d h ∙ (rw (← q) (any-lookup n (ends e) (take k ds) ∙ ap is_some (sym (t.same e))))

pub bad_if_found : (n : ℕ) (ds : List Data) (k : ℕ) (d : Data) (e : Pair) (c w : ℕ) (found : Pair → Option ℕ) → get_or ds k null ≡ d → Some (cost_item (e, c)) ≡ cost_of n d → IsTaken n ds k found → Some w ≡ found e → has_bad_cost n ds k ≡ true
bad_if_found n ds k d e c w found h q t f = bad_by_found n ds k d e c found h q t ∙ ap is_some (sym f)

same_ends : (e f : Pair) → pair_cmp e f ≡ Equal → e ≡ f
same_ends e f h = pair_same e f (pair_cmp-equal_lo e f h) (pair_cmp-equal_hi e f h)

at_equal : (e f : Pair) → is_at (pair_cmp e) f ≡ true → pair_cmp e f ≡ Equal
at_equal e f h = grind (arith, nat_tests)

ends_other : (e f : Pair) → is_at (pair_cmp e) f ≡ false → is_same_pair (ends f) (ends e) ≡ false
ends_other e f h = grind (arith, nat_tests)

ends_own : (e : Pair) → is_same_pair (ends e) (ends e) ≡ true
ends_own e = grind (arith, nat_tests)

-- one more item, of a new pair
pub taken_more : (n : ℕ) (ds : List Data) (k : ℕ) (d : Data) (e : Pair) (c : ℕ) (old new : Pair → Option ℕ) → k < length ds → get_or ds k null ≡ d → Some (cost_item (e, c)) ≡ cost_of n d → IsTaken n ds k old → None ≡ old e
    → new e ≡ Some c → ((q : Pair) → is_at (pair_cmp e) q ≡ false → new q ≡ old q) → IsTaken n ds (k + 1) new
taken_more n ds k d e c old new l h q t none here others =
    let more : filter_map (cost_of n) (take (k + 1) ds) ≡ filter_map (cost_of n) (take k ds) ++ cost_item (e, c) ∷ [] =
    ap (filter_map (cost_of n)) (take_more ds k null l ∙ ap (λ x. take k ds ++ x ∷ []) h) ∙ filter_map-push (cost_of n) (take k ds) d (cost_item (e, c)) (sym q) in
    record {
      good = below_next (has_bad_cost n ds) k t.good (bad_by_found n ds k d e c old h q t ∙ ap is_some (sym none));
      same = λ f. elim (is_at (pair_cmp e) f) as (λ b. is_at (pair_cmp e) f ≡ b → new f ≡ lookup (is_same_pair (ends f)) (filter_map (cost_of n) (take (k + 1) ds))) [
        | true ↦ λ b. subst (λ (p : Pair). new p ≡ lookup (is_same_pair (ends p)) (filter_map (cost_of n) (take (k + 1) ds))) (same_ends e f (at_equal e f b))
            (here ∙ sym (ap (lookup (is_same_pair (ends e))) more ∙ lookup-push_new (is_same_pair (ends e)) (filter_map (cost_of n) (take k ds)) (cost_item (e, c)) (ends_own e) (sym (t.same e) ∙ sym none)))
        | false ↦ λ b. others f b ∙ (t.same f ∙ sym (ap (lookup (is_same_pair (ends f))) more ∙ lookup-push_other (is_same_pair (ends f)) (filter_map (cost_of n) (take k ds)) (cost_item (e, c)) (ends_other e f b)))
      ] refl;
    }

pub bad_cost_found : (n : ℕ) (ds : List Data) (k : ℕ) → k < length ds → ((j : ℕ) → j < k → has_bad_cost n ds j ≡ false) → has_bad_cost n ds k ≡ true → cost_fault n ds ≡ Some (bad_cost k)
bad_cost_found n ds k h b t =
    let len = length-range_with_len 0 (length ds) in
    ap (option_map bad_cost) (position-found (has_bad_cost n ds) (range_with_len 0 (length ds)) k 0 (rw len h) (λ j l. ap (has_bad_cost n ds) (range_at ds j (omega arith)) ∙ b j l) (ap (has_bad_cost n ds) (range_at ds k h) ∙ t))

pub no_bad_cost : (n : ℕ) (ds : List Data) (k : ℕ) → length ds ≤ k → ((j : ℕ) → j < k → has_bad_cost n ds j ≡ false) → cost_fault n ds ≡ None
no_bad_cost n ds k h b =
    let len = length-range_with_len 0 (length ds) in
    ap (option_map bad_cost) (position-none (has_bad_cost n ds) (range_with_len 0 (length ds)) 0 (λ j l. let m : j < length ds = omega (arith, len, l) in ap (has_bad_cost n ds) (range_at ds j m) ∙ b j (omega arith)))

pub fault_of_items : (n : ℕ) (ds : List Data) (k : ℕ) → length ds ≤ 300000 → cost_fault n ds ≡ Some (bad_cost k) → costs_of n ds ≡ Err (bad_cost k)
fault_of_items n ds k few h =
    let b : nat_le (length ds) 300000 ≡ true = grind arith in
    rw (b, h) refl

items_of_all : (n : ℕ) (ds : List Data) → length ds ≤ 300000 → cost_fault n ds ≡ None → costs_of n ds ≡ Ok (filter_map (cost_of n) ds)
items_of_all n ds few h =
    let b : nat_le (length ds) 300000 ≡ true = grind arith in
    rw (b, h) refl

-- ---- the list of costs that a map makes

abbrev Entries : Type 0
Entries = List Costed

all_later : (x : Costed) (es : Entries) → AllByRecursion (λ y. pair_cmp x.0 y ≡ Less) (keys_of es) → All (IsCostedBefore x) (filter is_listed es)
all_later x [] h = λ k d l. absurd (omega (arith, l))
all_later x (y ∷ es) h =
    elim (is_listed y) as (λ b. All (IsCostedBefore x) (cond b (y ∷ filter is_listed es) (filter is_listed es))) [
      | true ↦ all_of_cons (IsCostedBefore x) y (filter is_listed es) (pair_cmp-less x y h.0) (all_later x es h.1)
      | false ↦ all_later x es h.1
    ]
  where
    all_of_cons : (P : Costed → Type 0) (y : Costed) (ys : Entries) → P y → All P ys → All P (y ∷ ys)
    all_of_cons P y ys p ps zero d l = p
    all_of_cons P y ys p ps (suc k) d l = ps k d (omega (arith, l))

pairs_of_cons : (x : Costed) (ys : Entries) → All (IsCostedBefore x) ys → AllPairs IsCostedBefore ys → AllPairs IsCostedBefore (x ∷ ys)
pairs_of_cons x ys one all i zero d l m = absurd (omega (arith, l))
pairs_of_cons x ys one all zero (suc j) d l m = one j d (omega (arith, m))
pairs_of_cons x ys one all (suc i) (suc j) d l m = all i j d (omega (arith, l)) (omega (arith, m))

filter_ascends : (es : Entries) → IsStrictlySortedBy pair_cmp (keys_of es) → AllPairs IsCostedBefore (filter is_listed es)
unfolding IsStrictlySortedBy
filter_ascends [] h = λ i j d l m. absurd (omega (arith, m))
filter_ascends (x ∷ es) h =
    elim (is_listed x) as (λ b. AllPairs IsCostedBefore (cond b (x ∷ filter is_listed es) (filter is_listed es))) [
      | true ↦ pairs_of_cons x (filter is_listed es) (all_later x es h.0) (filter_ascends es h.1)
      | false ↦ filter_ascends es h.1
    ]

-- what passes a test is kept
filter_all : (P : Costed → Type 0) (es : Entries) → ((x : Costed) → is_listed x ≡ true → P x) → All P (filter is_listed es)
filter_all P [] h = λ k d l. absurd (omega (arith, l))
filter_all P (x ∷ es) h =
    elim (is_listed x) as (λ b. is_listed x ≡ b → All P (cond b (x ∷ filter is_listed es) (filter is_listed es))) [
      | true ↦ λ e. cons_all (h x e) (filter_all P es h)
      | false ↦ λ e. filter_all P es h
    ] refl
  where
    cons_all : P x → All P (filter is_listed es) → All P (x ∷ filter is_listed es)
    cons_all p ps zero d l = p
    cons_all p ps (suc k) d l = ps k d (omega (arith, l))

listed_other : (x : Costed) → is_listed x ≡ true → x.1 ≢ 1
listed_other x h e = grind (arith, nat_tests)

unlisted_one : (x : Costed) → is_listed x ≡ false → x.1 ≡ 1
unlisted_one x h = grind (arith, nat_tests)

filter_within : (es : Entries) → All (λ x. x.1 ≤ 1000) es → All (λ x. x.1 ≤ 1000) (filter is_listed es)
filter_within [] h = λ k d l. absurd (omega (arith, l))
filter_within (x ∷ es) h =
    elim (is_listed x) as (λ b. All (λ y. y.1 ≤ 1000) (cond b (x ∷ filter is_listed es) (filter is_listed es))) [
      | true ↦ cons_within (h 0 x (omega arith)) (filter_within es (λ k d l. h (suc k) d (omega arith)))
      | false ↦ filter_within es (λ k d l. h (suc k) d (omega arith))
    ]
  where
    cons_within : x.1 ≤ 1000 → All (λ y. y.1 ≤ 1000) (filter is_listed es) → All (λ y. y.1 ≤ 1000) (x ∷ filter is_listed es)
    cons_within p ps zero d l = p
    cons_within p ps (suc k) d l = ps k d (omega (arith, l))

own_ends : (e : Pair) (x : Costed) → is_at (pair_cmp e) x.0 ≡ true → has_ends x.0 e.lo e.hi ≡ true
own_ends e x h = grind (arith, nat_tests)

other_ends : (e : Pair) (x : Costed) → is_at (pair_cmp e) x.0 ≡ false → has_ends x.0 e.lo e.hi ≡ false
other_ends e x h = let eo = e.ordered in let xo = x.0.ordered in grind (arith, nat_tests)

absent_later : (e : Pair) (x y : Costed) → is_at (pair_cmp e) x.0 ≡ true → IsCostedBefore x y → has_ends y.0 e.lo e.hi ≡ false
absent_later e x y h (inl b) = let eo = e.ordered in let yo = y.0.ordered in grind (arith, nat_tests)
absent_later e x y h (inr b) = let eo = e.ordered in let yo = y.0.ordered in grind (arith, nat_tests)

-- a pair costs what the map has, and 1 where it has nothing
cost-filter : (es : Entries) (e : Pair) → IsStrictlySortedBy pair_cmp (keys_of es) → cost (filter is_listed es) e.lo e.hi ≡ unwrap_or (lookup (is_at (pair_cmp e)) es) 1
unfolding IsStrictlySortedBy
cost-filter [] e h = refl
cost-filter (x ∷ es) e h =
    elim (is_at (pair_cmp e) x.0) as (λ b. is_at (pair_cmp e) x.0 ≡ b → cost (filter is_listed (x ∷ es)) e.lo e.hi ≡ unwrap_or (cond b (Some x.1) (lookup (is_at (pair_cmp e)) es)) 1) [
      | true ↦ λ t. here t
      | false ↦ λ t. there t (cost-filter es e h.1)
    ] refl
  where
    none_later : is_at (pair_cmp e) x.0 ≡ true → cost (filter is_listed es) e.lo e.hi ≡ 1
    none_later t = cost-absent (filter is_listed es) e.lo e.hi (λ k d l. absent_later e x (get_or (filter is_listed es) k d) t (all_later x es h.0 k d l))

    here : is_at (pair_cmp e) x.0 ≡ true → cost (filter is_listed (x ∷ es)) e.lo e.hi ≡ x.1
    here t =
        elim (is_listed x) as (λ b. is_listed x ≡ b → cost (cond b (x ∷ filter is_listed es) (filter is_listed es)) e.lo e.hi ≡ x.1) [
          | true ↦ λ u. rw (own_ends e x t) refl
          | false ↦ λ u. none_later t ∙ sym (unlisted_one x u)
        ] refl

    there : is_at (pair_cmp e) x.0 ≡ false → cost (filter is_listed es) e.lo e.hi ≡ unwrap_or (lookup (is_at (pair_cmp e)) es) 1 → cost (filter is_listed (x ∷ es)) e.lo e.hi ≡ unwrap_or (lookup (is_at (pair_cmp e)) es) 1
    there t rest =
        elim (is_listed x) as (λ b. cost (cond b (x ∷ filter is_listed es) (filter is_listed es)) e.lo e.hi ≡ unwrap_or (lookup (is_at (pair_cmp e)) es) 1) [
          | true ↦ rw (other_ends e x t) rest
          | false ↦ rest
        ]

-- ---- all items

none_some : {A : Type 0} {x : A} → None ≡ Some x → ⊥
none_some h = grind (arith, h)

three_small : (o : Option (ℕ × ℕ)) (c : Data) (x : CostItem) → option_and_then (λ e. option_map (λ w. (e, w)) (whole_below 1001 c)) o ≡ Some x → x.1 ≤ 1000
three_small None c x h = absurd (none_some h)
three_small (Some e) c x h =
    elim (whole_below 1001 c) as (λ w. whole_below 1001 c ≡ w → option_map (λ v. (e, v)) w ≡ Some x → x.1 ≤ 1000) [
      | None ↦ λ q k. absurd (none_some k)
      | Some w ↦ λ q k. (let b : w < 1001 = index_bound 1001 w (whole c) q in
          let same : w ≡ x.1 = ap (λ (y : CostItem). y.1) (same_Some _ _ k) in
          omega (arith, b, same))
    ] refl h

list_small : (n : ℕ) (ds : List Data) (x : CostItem) → cost_in n ds ≡ Some x → x.1 ≤ 1000
list_small n [] x h = absurd (none_some h)
list_small n (a ∷ []) x h = absurd (none_some h)
list_small n (a ∷ b ∷ []) x h = absurd (none_some h)
list_small n (a ∷ b ∷ c ∷ []) x h = three_small (whole_pair n a b) c x h
list_small n (a ∷ b ∷ c ∷ d ∷ more) x h = absurd (none_some h)

-- costs are at most 1,000
item_small : (n : ℕ) (d : Data) (x : CostItem) → cost_of n d ≡ Some x → x.1 ≤ 1000
item_small n d x h = at_list (option_map list_of (as_array d)) h
  where
    at_list : (o : Option (List Data)) → option_and_then (cost_in n) o ≡ Some x → x.1 ≤ 1000
    at_list None h = absurd (none_some h)
    at_list (Some ds) h = list_small n ds x h

items_small : (n : ℕ) (ds : List Data) → All (λ (x : CostItem). x.1 ≤ 1000) (filter_map (cost_of n) ds)
items_small n [] = λ k d l. absurd (omega (arith, l))
items_small n (d ∷ ds) =
    elim (cost_of n d) as (λ o. cost_of n d ≡ o → All (λ (x : CostItem). x.1 ≤ 1000) (cons_option o (filter_map (cost_of n) ds))) [
      | None ↦ λ e. items_small n ds
      | Some x ↦ λ e. cons_small x (item_small n d x e) (items_small n ds)
    ] refl
  where
    cons_small : (x : CostItem) → x.1 ≤ 1000 → All (λ (y : CostItem). y.1 ≤ 1000) (filter_map (cost_of n) ds) → All (λ (y : CostItem). y.1 ≤ 1000) (x ∷ filter_map (cost_of n) ds)
    cons_small x p ps zero d l = p
    cons_small x p ps (suc k) d l = ps k d (omega (arith, l))

entries_small : (X : List CostItem) (m : BTreeMap Pair ℕ) → IsOrdered pair_cmp m → All (λ (x : CostItem). x.1 ≤ 1000) X → ((e : Pair) → get pair_cmp m e ≡ lookup (is_same_pair (ends e)) X) → All (λ (x : Costed). x.1 ≤ 1000) m.entries
entries_small X m up small same k d l =
    let x = get_or m.entries k d in
    let found : get pair_cmp m x.0 ≡ Some x.1 = All-found pair_total m up k d l in
    let value : lookup (is_same_pair (ends x.0)) X ≡ Some x.1 = sym (same x.0) ∙ found in
    subst (λ (o : Option ℕ). IfSome o (λ c. c ≤ 1000)) value (All-lookup (λ c. c ≤ 1000) (is_same_pair (ends x.0)) X small)

-- what the whole list of items gives
pub gives_costs : (n : ℕ) (ds : List Data) (k : ℕ) (m : BTreeMap Pair ℕ) → length ds ≤ 300000 → length ds ≤ k → IsTaken n ds k (get pair_cmp m) → IsOrdered pair_cmp m
    → GivesCosts (costs_of n ds) (filter is_listed m.entries)
gives_costs n ds k m few h t up =
    let all : take k ds ≡ ds = take_all k ds h in
    let items = filter_map (cost_of n) ds in
    let same : (e : Pair) → get pair_cmp m e ≡ lookup (is_same_pair (ends e)) items = λ e. t.same e ∙ ap (λ xs. lookup (is_same_pair (ends e)) (filter_map (cost_of n) xs)) all in (
      items,
      items_of_all n ds few (no_bad_cost n ds k h t.good),
      record {
        costs = record {
          ascending = filter_ascends m.entries up;
          within = filter_within m.entries (entries_small items m up (items_small n ds) same);
          other = filter_all (λ x. x.1 ≢ 1) m.entries listed_other;
        };
        same = λ i j l.
            (let e : Pair = record { lo = i; hi = j; ordered = l } in
            cost-filter m.entries e up ∙ ap (λ o. unwrap_or o 1) (same e));
      },
    )

not_three : (n : ℕ) (ds : List Data) → length ds ≢ 3 → None ≡ cost_in n ds
not_three n [] h = refl
not_three n (a ∷ []) h = refl
not_three n (a ∷ b ∷ []) h = refl
not_three n (a ∷ b ∷ c ∷ []) h = absurd (h refl)
not_three n (a ∷ b ∷ c ∷ d ∷ more) h = refl

-- an array that hasn't three items gives no cost
pub cost_of-not_three : (n : ℕ) (d : Data) (vs : List Value) → Some (items_view vs) ≡ as_array d → length vs ≢ 3 → None ≡ cost_of n d
cost_of-not_three n d vs e h =
    let count = length-map vs view in
    not_three n (map view vs) (λ q. h (sym count ∙ q))
    ∙ (ap (cost_in n) (sym (list_of-items_of (map view vs))) ∙ ap (λ o. option_and_then (cost_in n) (option_map list_of o)) e)

-- ---- the value that has the costs

pub costs_in-none : (n : ℕ) (d : Data) → None ≡ get_key (codes "costs") d → costs_in n d ≡ Ok []
unfolding costs_in
costs_in-none n d e = rw (← e) refl

pub costs_in-no_array : (n : ℕ) (d f : Data) → Some f ≡ get_key (codes "costs") d → None ≡ as_array f → costs_in n d ≡ Err bad_costs
unfolding costs_in
costs_in-no_array n d f e h = rw (← e, ← h) refl

pub costs_in-array : (n : ℕ) (d f : Data) (vs : List Value) → Some f ≡ get_key (codes "costs") d → Some (items_view vs) ≡ as_array f → costs_in n d ≡ costs_of n (map view vs)
unfolding costs_in
costs_in-array n d f vs e h = rw (← e, ← h, list_of-items_of (map view vs)) refl

pub no_costs : AreCostsOf [] []
no_costs = record {
  costs = record { ascending = λ i j d l m. absurd (omega (arith, m)); within = λ k d l. absurd (omega (arith, l)); other = λ k d l. absurd (omega (arith, l)) };
  same = λ i j l. refl;
}

pub too_many_told : (n : ℕ) (d f : Data) (vs : List Value) (fault : InstanceFault) → Some f ≡ get_key (codes "costs") d → Some (items_view vs) ≡ as_array f → 300000 < length vs
    → TellsCosts fault (Some (too_many_costs (length vs))) → TellsCosts fault (error (costs_in n d))
too_many_told n d f vs fault e h l t =
    let count = length-map vs view in
    let many : nat_le (length (map view vs)) 300000 ≡ false = grind (arith, count) in
    let all : costs_of n (map view vs) ≡ Err (too_many_costs (length vs)) = rw many (ap (λ c. Err (too_many_costs c)) count) in
    subst (λ r. TellsCosts fault (error r)) (sym (costs_in-array n d f vs e h ∙ all)) t

pub costs_answer : (n : ℕ) (d f : Data) (vs : List Value) (result : Result (List Costed) InstanceFault) → Some f ≡ get_key (codes "costs") d → Some (items_view vs) ≡ as_array f
    → MatchResult result (λ D. GivesCosts (costs_of n (map view vs)) D) (λ fault. TellsCosts fault (error (costs_of n (map view vs))))
    → MatchResult result (λ D. GivesCosts (costs_in n d) D) (λ fault. TellsCosts fault (error (costs_in n d)))
costs_answer n d f vs result e h a =
    subst (λ r. MatchResult result (λ D. GivesCosts r D) (λ fault. TellsCosts fault (error r))) (sym (costs_in-array n d f vs e h)) a
