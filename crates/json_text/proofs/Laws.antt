-- Laws of readers and writers: the first place with a property among the items of an array, the parts of a reading, and texts
-- that are put together.
use Rattle.std.proofs.Common.{◌≡◌, ℕ, ◌+◌, ◌<◌, ◌≤◌, List, [], ◌∷◌, ◌++◌, length, map, get_or, nat_lt, Option, Some, None, Result, Ok, Err, Bool, true, false, refl, sym, ap, ◌∙◌, append_assoc, inl, inr, arith, drop}
use Rattle.std.specs.List.{position, position_or_len, filter_map, cons_option}
use Rattle.std.proofs.lemmas.Bool.{cases_lt}
use Rattle.std.proofs.lemmas.List.{drop_more, drop_all, get_or-map, length-map}
use Rattle.std.proofs.lemmas.List.Sums.{position_or_len_is}
use Rattle.serde_json.specs.Data.{Data, null, Items}
use Rattle.serde_json.specs.Written.{comma_if, compact_text, items_text}
use Rattle.serde_json.specs.View.{view, items_of}
use Rattle.serde_json.specs.declared.value.Value.{Value}

-- ---- the first place with a property

pub position-found : {X : Type 0} (p : X → Bool) (xs : List X) (k : ℕ) (d : X) → k < length xs → ((j : ℕ) → j < k → p (get_or xs j d) ≡ false) → p (get_or xs k d) ≡ true → position p xs ≡ Some k
position-found p xs k d h b t =
    let e : position_or_len p xs ≡ k = position_or_len_is p xs k d (omega arith) b (λ _. t) in
    let l : nat_lt k (length xs) ≡ true = grind arith in
    rw (e, l) refl

pub position-none : {X : Type 0} (p : X → Bool) (xs : List X) (d : X) → ((j : ℕ) → j < length xs → p (get_or xs j d) ≡ false) → position p xs ≡ None
position-none p xs d b =
    let e : position_or_len p xs ≡ length xs = position_or_len_is p xs (length xs) d (omega arith) b (λ h. absurd (omega arith)) in
    let l : nat_lt (length xs) (length xs) ≡ false = grind arith in
    rw (e, l) refl

-- what holds of the places below k, and of k, holds of those below k + 1
pub below_next : (p : ℕ → Bool) (k : ℕ) → ((j : ℕ) → j < k → p j ≡ false) → p k ≡ false → (j : ℕ) → j < k + 1 → p j ≡ false
below_next p k b t j h =
    elim (cases_lt j k) [
      | inl l ↦ b j l
      | inr l ↦ (let e : j ≡ k = omega arith in rw e t)
    ]

-- ---- the items of an array

pub view-at : (vs : List Value) (k : ℕ) (v : Value) → k < length vs → v ≡ get_or vs k v → get_or (map view vs) k null ≡ view v
view-at vs k v h e = get_or-map view vs k v null h ∙ ap view (sym e)

-- no place before k has the property
abbrev pub NoneBefore : (Data → Bool) → List Data → ℕ → Type 0
NoneBefore p ds k = (j : ℕ) → j < k → p (get_or ds j null) ≡ false

pub position-item : (p : Data → Bool) (vs : List Value) (k : ℕ) (v : Value) → k < length vs → v ≡ get_or vs k v → NoneBefore p (map view vs) k → p (view v) ≡ true → position p (map view vs) ≡ Some k
position-item p vs k v h e b t = position-found p (map view vs) k null (rw (length-map vs view) h) b (ap p (view-at vs k v h e) ∙ t)

pub position-no_item : (p : Data → Bool) (vs : List Value) (k : ℕ) → length vs ≤ k → NoneBefore p (map view vs) k → position p (map view vs) ≡ None
position-no_item p vs k h b = position-none p (map view vs) null (λ j l. b j (let e = length-map vs view in omega (arith, e)))

pub none_before-next : (p : Data → Bool) (vs : List Value) (k : ℕ) (v : Value) → k < length vs → v ≡ get_or vs k v → NoneBefore p (map view vs) k → p (view v) ≡ false → NoneBefore p (map view vs) (k + 1)
none_before-next p vs k v h e b t = below_next (λ j. p (get_or (map view vs) j null)) k b (ap p (view-at vs k v h e) ∙ t)

pub filter_map-push : {X Y : Type 0} (h : X → Option Y) (xs : List X) (x : X) (y : Y) → h x ≡ Some y → filter_map h (xs ++ x ∷ []) ≡ filter_map h xs ++ y ∷ []
filter_map-push h [] x y e = rw e refl
filter_map-push h (z ∷ xs) x y e = ap (cons_option (h z)) (filter_map-push h xs x y e) ∙ cons_option-push (h z) (filter_map h xs) y
  where
    cons_option-push : {Y : Type 0} (o : Option Y) (xs : List Y) (y : Y) → cons_option o (xs ++ y ∷ []) ≡ cons_option o xs ++ y ∷ []
    cons_option-push None xs y = refl
    cons_option-push (Some x) xs y = refl

-- ---- the answers of a reading

pub err_same : {A E : Type 0} {x y : E} → ◌≡◌ {A = Result A E} (Err x) (Err y) → y ≡ x
err_same h = grind (arith, h)

pub ok_same : {A E : Type 0} {x y : A} → ◌≡◌ {A = Result A E} (Ok x) (Ok y) → x ≡ y
ok_same h = grind (arith, h)

pub ok_err : {A E : Type 0} {x : A} {y : E} → ◌≡◌ {A = Result A E} (Ok x) (Err y) → ⊥
ok_err h = grind (arith, h)

-- ---- written texts

-- two pieces appended are one
pub append-two : (r s t : List ℕ) (a b : List ℕ) → s ≡ r ++ a → t ≡ s ++ b → t ≡ r ++ (a ++ b)
append-two r s t a b e f = f ∙ (ap (λ xs. xs ++ b) e ∙ append_assoc r a b)

-- the items from place k on
abbrev pub items_from : ℕ → List Data → Items
items_from k ds = items_of (drop k ds)

-- where the item at k is appended to a text, after a comma unless it is the first
pub items_text-next : (k : ℕ) (ds : List Data) (d : Data) (old new all : List ℕ) → k < length ds → get_or ds k null ≡ d
    → old ++ items_text (nat_lt 0 k) (items_from k ds) ≡ all
    → new ≡ old ++ (comma_if (nat_lt 0 k) ++ compact_text d)
    → new ++ items_text (nat_lt 0 (k + 1)) (items_from (k + 1) ds) ≡ all
items_text-next k ds d old new all h is e n =
    let later : nat_lt 0 (k + 1) ≡ true = grind arith in
    let text = compact_text d in
    let more = items_text true (items_from (k + 1) ds) in
    let rest : drop k ds ≡ d ∷ drop (k + 1) ds = drop_more ds k null h ∙ ap (λ x. x ∷ drop (k + 1) ds) is in
    let here : items_text (nat_lt 0 k) (items_from k ds) ≡ comma_if (nat_lt 0 k) ++ (text ++ more) = ap (λ xs. items_text (nat_lt 0 k) (items_of xs)) rest in
    rw (later, n) (append_assoc old (comma_if (nat_lt 0 k) ++ text) more ∙ (ap (λ xs. old ++ xs) (append_assoc (comma_if (nat_lt 0 k)) text more ∙ sym here) ∙ e))

-- past the last item the array ends
pub items_text-end : (k : ℕ) (ds : List Data) (later : Bool) → length ds ≤ k → items_text later (items_from k ds) ≡ 93 ∷ []
items_text-end k ds later h = ap (λ xs. items_text later (items_of xs)) (drop_all k ds h)
