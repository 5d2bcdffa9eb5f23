-- The items of points that are read, and the places taken by indices.
use Rattle.std.proofs.Common.{◌≡◌, ◌≢◌, ◌⊎◌, ℕ, ◌+◌, ◌<◌, ◌≤◌, List, [], ◌∷◌, ◌++◌, length, map, take, set, get_or, eqb, Option, Some, None, cond, Bool, true, false, not, ◌||◌, refl, sym, ap, ◌∙◌, inl, inr, arith, unwrap_or, option_map, option_and_then, ℤ, pos, negsuc}
use Rattle.std.specs.List.{list_any, range_with_len}
use Rattle.std.proofs.lemmas.Bool.{cases_eq}
use Rattle.std.proofs.lemmas.List.{take_more, take_all, map-append, length-map, get_or-set_same, get_or-set_other}
use Rattle.std.proofs.lemmas.List.Folds.{list_any-append}
use Rattle.std.proofs.lemmas.List.FromFn.{length-range_with_len, get_or-range_with_len}
use Rattle.serde_json.specs.Data.{Data, null}
use Rattle.serde_json.specs.View.{view}
use Rattle.serde_json.specs.declared.value.Value.{Value}
use Rattle.text_defs.specs.Fields.{below, item_at}
use Rattle.text_defs.proofs.laws.Lists.{item_at-get_or}
use Rattle.json_text.proofs.Laws.{position-found, position-none, below_next, view-at, NoneBefore, position-item, position-no_item}
use Rattle.text_defs.specs.Instances.{index_in, has_this_index, has_bad_index, bad_index, index_fault, not_whole, bad_point, point_fault, is_point, has_both, point_of}
use Rattle.instance_io.specs.Told.{is_seen, Tells, lack_of}
use Rattle.instance_io.specs.Refusal.{coordinates}
use Rattle.plane.specs.declared.coordinates.Point.{Point}
use Rattle.instance_io.specs.declared.instances.InstanceFault.{InstanceFault}
use Rattle.instance_io.specs.declared.instances.InstanceFault.TheVariants.{NotWhole, BadPoint}

-- ---- items by their indices

pub below_bound : (n i : ℕ) (z : ℤ) → below n z ≡ Some i → i < n
below_bound n i (pos k) h = grind arith
below_bound n i (negsuc k) h = grind arith

-- the indices of the first k items are marked as seen
abbrev pub AreSeen : List Bool → List Data → ℕ → Type 0
AreSeen seen ds k = (i : ℕ) → i < length ds → get_or seen i false ≡ list_any (has_this_index (length ds) i) (take k ds)

bad_by_index : (seen : List Bool) (ds : List Data) (k : ℕ) (b : Bool) (o : Option ℕ) → ((i : ℕ) → o ≡ Some i → i < length ds) → AreSeen seen ds k
    → unwrap_or (option_map (λ i. get_or seen i false) o) true ≡ b
    → unwrap_or (option_map (λ i. list_any (has_this_index (length ds) i) (take k ds)) o) true ≡ b
bad_by_index seen ds k b None l s h = h
bad_by_index seen ds k b (Some i) l s h = sym (s i (l i refl)) ∙ h

pub index_bound : (n i : ℕ) (o : Option ℤ) → option_and_then (below n) o ≡ Some i → i < n
index_bound n i None h = grind arith
index_bound n i (Some z) h = below_bound n i z h

pub bad_if_seen : (seen : List Bool) (ds : List Data) (n k : ℕ) (d : Data) (b : Bool) → n ≡ length ds → get_or ds k null ≡ d → AreSeen seen ds k
    → is_seen seen n d ≡ b → has_bad_index ds k ≡ b
bad_if_seen seen ds n k d b e g s h =
    let at : item_at ds k ≡ d = item_at-get_or ds k ∙ g in
    rw at (bad_by_index seen ds k b (index_in (length ds) d) (λ i q. index_bound (length ds) i _ q) s (rw (← e) h))

or_true : (b : Bool) → (b || true) ≡ true
or_true true = refl
or_true false = refl

or_false : (b : Bool) → (b || false) ≡ b
or_false true = refl
or_false false = refl

any_push : {X : Type 0} (p : X → Bool) (xs : List X) (x : X) → list_any p (xs ++ x ∷ []) ≡ (list_any p xs || p x)
any_push p xs x = list_any-append p xs (x ∷ []) ∙ ap (λ b. list_any p xs || b) (or_false (p x))

pub this_index : (n i j : ℕ) (d : Data) → index_in n d ≡ Some i → has_this_index n j d ≡ eqb j i
this_index n i j d h = rw h refl

seen_cases : (seen : List Bool) (xs : List Data) (n i j : ℕ) (d : Data) → index_in n d ≡ Some i → i < length seen → (j ≡ i) ⊎ (j ≢ i)
    → get_or seen j false ≡ list_any (has_this_index n j) xs → get_or (set seen i true) j false ≡ list_any (has_this_index n j) (xs ++ d ∷ [])
seen_cases seen xs n i j d h l (inl e) s =
    let q : eqb j i ≡ true = grind arith in
    let t : has_this_index n j d ≡ true = this_index n i j d h ∙ q in
    let left : get_or (set seen i true) j false ≡ true = rw e (get_or-set_same seen i true false l) in
    left ∙ sym (any_push (has_this_index n j) xs d ∙ rw t (or_true (list_any (has_this_index n j) xs)))
seen_cases seen xs n i j d h l (inr e) s =
    let q : eqb j i ≡ false = grind arith in
    let t : has_this_index n j d ≡ false = this_index n i j d h ∙ q in
    get_or-set_other seen i j true false e ∙ (s ∙ sym (any_push (has_this_index n j) xs d ∙ rw t (or_false (list_any (has_this_index n j) xs))))

pub seen_more : (seen : List Bool) (ds : List Data) (k i : ℕ) → k < length ds → index_in (length ds) (get_or ds k null) ≡ Some i → i < length seen → AreSeen seen ds k → AreSeen (set seen i true) ds (k + 1)
seen_more seen ds k i l h b s j q =
    seen_cases seen (take k ds) (length ds) i j (get_or ds k null) h b (cases_eq j i) (s j q)
    ∙ ap (list_any (has_this_index (length ds) j)) (sym (take_more ds k null l))

pub good_more : (ds : List Data) (k : ℕ) → ((j : ℕ) → j < k → has_bad_index ds j ≡ false) → has_bad_index ds k ≡ false → (j : ℕ) → j < k + 1 → has_bad_index ds j ≡ false
good_more ds k b t = below_next (has_bad_index ds) k b t

pub range_at : (ds : List Data) (j : ℕ) → j < length ds → get_or (range_with_len 0 (length ds)) j 0 ≡ j
range_at ds j h = let z : 0 + j ≡ j = omega arith in get_or-range_with_len 0 (length ds) j 0 h ∙ z

pub bad_index_found : (ds : List Data) (k : ℕ) → k < length ds → ((j : ℕ) → j < k → has_bad_index ds j ≡ false) → has_bad_index ds k ≡ true → index_fault ds ≡ Some (bad_index k)
bad_index_found ds k h b t =
    let len = length-range_with_len 0 (length ds) in
    ap (option_map bad_index) (position-found (has_bad_index ds) (range_with_len 0 (length ds)) k 0 (rw len h) (λ j l. ap (has_bad_index ds) (range_at ds j (omega arith)) ∙ b j l) (ap (has_bad_index ds) (range_at ds k h) ∙ t))

pub no_bad_index : (ds : List Data) (k : ℕ) → length ds ≤ k → ((j : ℕ) → j < k → has_bad_index ds j ≡ false) → index_fault ds ≡ None
no_bad_index ds k h b =
    let len = length-range_with_len 0 (length ds) in
    ap (option_map bad_index) (position-none (has_bad_index ds) (range_with_len 0 (length ds)) 0 (λ j l. let m : j < length ds = omega (arith, len, l) in ap (has_bad_index ds) (range_at ds j m) ∙ b j (omega arith)))

-- ---- items that are no points

tells_lack : (b : Bool) (k : ℕ) → Tells (cond b (NotWhole k) (BadPoint k)) (Some (cond b (not_whole k) (bad_point k)))
tells_lack true k = refl
tells_lack false k = refl

not_true : (b : Bool) → b ≡ false → not b ≡ true
not_true b h = rw h refl

pub lack_told : (vs : List Value) (k : ℕ) (v : Value) (f : InstanceFault) → k < length vs → v ≡ get_or vs k v → NoneBefore (λ d. not (is_point d)) (map view vs) k
    → is_point (view v) ≡ false → f ≡ lack_of (view v) k → Tells f (point_fault (map view vs))
lack_told vs k v f h e b t q =
    let place = position-item (λ d. not (is_point d)) vs k v h e b (not_true (is_point (view v)) t) in
    let item : item_at (map view vs) k ≡ view v = item_at-get_or (map view vs) k ∙ view-at vs k v h e in
    let fault : point_fault (map view vs) ≡ Some (cond (has_both (view v)) (not_whole k) (bad_point k)) =
    ap (option_map (λ j. cond (has_both (item_at (map view vs) j)) (not_whole j) (bad_point j))) place ∙ ap (λ d. Some (cond (has_both d) (not_whole k) (bad_point k))) item in
    rw (q, fault) (tells_lack (has_both (view v)) k)

pub all_points : (vs : List Value) (k : ℕ) → length vs ≤ k → NoneBefore (λ d. not (is_point d)) (map view vs) k → point_fault (map view vs) ≡ None
all_points vs k h b = ap (option_map (λ j. cond (has_both (item_at (map view vs) j)) (not_whole j) (bad_point j))) (position-no_item (λ d. not (is_point d)) vs k h b)

pub points_more : (points : List Point) (p : Point) (vs : List Value) (k : ℕ) (v : Value) → k < length vs → v ≡ get_or vs k v
    → map coordinates points ≡ map point_of (take k (map view vs)) → coordinates p ≡ point_of (view v)
    → map coordinates (points ++ p ∷ []) ≡ map point_of (take (k + 1) (map view vs))
points_more points p vs k v h e s q =
    let more : take (k + 1) (map view vs) ≡ take k (map view vs) ++ view v ∷ [] =
    take_more (map view vs) k null (rw (length-map vs view) h) ∙ ap (λ d. take k (map view vs) ++ d ∷ []) (view-at vs k v h e) in
    map-append coordinates points (p ∷ []) ∙ (ap (λ xs. xs ++ coordinates p ∷ []) s ∙ (ap (λ y. map point_of (take k (map view vs)) ++ y ∷ []) q
    ∙ (sym (map-append point_of (take k (map view vs)) (view v ∷ [])) ∙ ap (map point_of) (sym more))))

pub points_end : (points : List Point) (vs : List Value) (k : ℕ) → length vs ≤ k → map coordinates points ≡ map point_of (take k (map view vs)) → map coordinates points ≡ map point_of (map view vs)
points_end points vs k h s = s ∙ ap (map point_of) (take_all k (map view vs) (let e = length-map vs view in omega (arith, e)))
