-- The points by the indices of their items.
use Rattle.std.proofs.Common.{◌≡◌, ◌≢◌, ◌⊎◌, ℕ, ◌+◌, ◌<◌, List, [], ◌∷◌, ◌++◌, length, map, take, set, get_or, Option, Some, None, Bool, true, false, refl, sym, ap, ◌∙◌, inl, inr, arith, pos, subst, option_map, unwrap_or}
use Rattle.std.specs.Option.{option_or}
use Rattle.std.specs.List.{list_any, find, range_with_len}
use Rattle.std.proofs.lemmas.Bool.{cases_eq}
use Rattle.std.proofs.lemmas.List.{take_more, take_all, ext_get_or, length-map, get_or-map, get_or-set_same, get_or-set_other}
use Rattle.std.proofs.lemmas.List.Folds.{find-append}
use Rattle.std.proofs.lemmas.List.FromFn.{length-map-range_with_len, get_or-map-range_with_len}
use Rattle.serde_json.specs.Data.{Data, null}
use Rattle.plane.specs.declared.coordinates.Point.{Point}
use Rattle.plane.specs.Geometry.{point}
use Rattle.text_defs.specs.Instances.{index_in, has_this_index, point_of, is_indexed, item_of_index, points_of, has_bad_index}
use Rattle.instance_io.specs.Told.{is_seen}
use Rattle.instance_io.specs.Refusal.{coordinates}
use Rattle.instance_io.proofs.Places.{this_index, AreSeen, good_more, bad_if_seen, seen_more}

-- each point stands at the index of its item, of the first k items
abbrev pub ArePlaced : List Point → List Data → ℕ → Type 0
ArePlaced placed ds k = (i : ℕ) → i < length ds → coordinates (point placed i) ≡ point_of (unwrap_or (find (has_this_index (length ds) i) (take k ds)) null)

find_none : {X : Type 0} (p : X → Bool) (xs : List X) → list_any p xs ≡ false → find p xs ≡ None
find_none p [] h = refl
find_none p (x ∷ xs) h =
    let first : p x ≡ false = grind arith in
    let others : list_any p xs ≡ false = grind arith in
    rw first (find_none p xs others)

found_new : (p : Data → Bool) (xs : List Data) (d : Data) → list_any p xs ≡ false → p d ≡ true → find p (xs ++ d ∷ []) ≡ Some d
found_new p xs d h t = find-append p xs (d ∷ []) ∙ rw (find_none p xs h, t) refl

or_none : {X : Type 0} (o : Option X) → option_or o None ≡ o
or_none None = refl
or_none (Some x) = refl

found_old : (p : Data → Bool) (xs : List Data) (d : Data) → p d ≡ false → find p (xs ++ d ∷ []) ≡ find p xs
found_old p xs d t = find-append p xs (d ∷ []) ∙ rw t (or_none (find p xs))

placed_cases : (placed : List Point) (xs : List Data) (n i j : ℕ) (d : Data) (new : Point) → index_in n d ≡ Some i → i < length placed → coordinates new ≡ point_of d
    → list_any (has_this_index n i) xs ≡ false → (j ≡ i) ⊎ (j ≢ i)
    → coordinates (point placed j) ≡ point_of (unwrap_or (find (has_this_index n j) xs) null)
    → coordinates (point (set placed i new) j) ≡ point_of (unwrap_or (find (has_this_index n j) (xs ++ d ∷ [])) null)
placed_cases placed xs n i j d new h l c f (inl e) s =
    let t : has_this_index n i d ≡ true = this_index n i i d h ∙ grind arith in
    rw e (ap coordinates (get_or-set_same placed i new _ l) ∙ (c ∙ ap (λ o. point_of (unwrap_or o null)) (sym (found_new (has_this_index n i) xs d f t))))
placed_cases placed xs n i j d new h l c f (inr e) s =
    let t : has_this_index n j d ≡ false = this_index n i j d h ∙ grind arith in
    ap coordinates (get_or-set_other placed i j new _ e) ∙ (s ∙ ap (λ o. point_of (unwrap_or o null)) (sym (found_old (has_this_index n j) xs d t)))

pub placed_more : (placed : List Point) (ds : List Data) (k i : ℕ) (new : Point) → k < length ds → index_in (length ds) (get_or ds k null) ≡ Some i → i < length placed
    → coordinates new ≡ point_of (get_or ds k null) → list_any (has_this_index (length ds) i) (take k ds) ≡ false → ArePlaced placed ds k → ArePlaced (set placed i new) ds (k + 1)
placed_more placed ds k i new l h b c f s j q =
    placed_cases placed (take k ds) (length ds) i j (get_or ds k null) new h b c f (cases_eq j i) (s j q)
    ∙ ap (λ xs. point_of (unwrap_or (find (has_this_index (length ds) j) xs) null)) (sym (take_more ds k null l))

pub all_placed : (placed : List Point) (ds : List Data) → length placed ≡ length ds → ArePlaced placed ds (length ds) → is_indexed ds ≡ true → map coordinates placed ≡ points_of ds
all_placed placed ds e s i =
    let right : points_of ds ≡ map (λ i. point_of (item_of_index ds i)) (range_with_len 0 (length ds)) = rw i refl in
    let len : length (map coordinates placed) ≡ length (map (λ i. point_of (item_of_index ds i)) (range_with_len 0 (length ds))) =
    length-map placed coordinates ∙ (e ∙ sym (length-map-range_with_len (λ i. point_of (item_of_index ds i)) 0 (length ds))) in
    ext_get_or (pos 0, pos 0) _ _ len (λ k h.
    let l : k < length placed = let q = length-map placed coordinates in omega (arith, q, h) in
    let m : k < length ds = omega (arith, e, l) in
    get_or-map coordinates placed k (record { x = pos 0; y = pos 0 }) (pos 0, pos 0) l
    ∙ (s k m ∙ (ap (λ xs. point_of (unwrap_or (find (has_this_index (length ds) k) xs) null)) (take_all (length ds) ds (omega arith))
    ∙ sym (get_or-map-range_with_len (λ i. point_of (item_of_index ds i)) 0 (length ds) k k (pos 0, pos 0) m (omega arith)))))
    ∙ sym right

index_clear : (seen : List Bool) (n i : ℕ) (d : Data) → index_in n d ≡ Some i → is_seen seen n d ≡ false → get_or seen i false ≡ false
index_clear seen n i d e h = subst (λ o. unwrap_or (option_map (λ j. get_or seen j false) o) true ≡ false) e h

same_at : (points : List Point) (ds : List Data) (k : ℕ) → k < length ds → map coordinates points ≡ map point_of ds → coordinates (point points k) ≡ point_of (get_or ds k null)
same_at points ds k h e =
    let l : k < length points = let a = length-map points coordinates in let b = length-map ds point_of in let q = ap length e in omega (arith, a, b, q, h) in
    sym (get_or-map coordinates points k (record { x = pos 0; y = pos 0 }) (pos 0, pos 0) l) ∙ (ap (λ xs. get_or xs k (pos 0, pos 0)) e ∙ get_or-map point_of ds k null (pos 0, pos 0) h)

-- what a step over the item at place k keeps
pub record Stepped (seen : List Bool) (placed : List Point) (ds : List Data) (k : ℕ) : Type 0 where
  pub good : (j : ℕ) → j < k → has_bad_index ds j ≡ false
  pub seen_is : AreSeen seen ds k
  pub placed_is : ArePlaced placed ds k

pub step : (seen : List Bool) (placed points : List Point) (ds : List Data) (k i n : ℕ) (d : Data) → k < length ds → n ≡ length ds → length seen ≡ n → length placed ≡ n
    → get_or ds k null ≡ d → map coordinates points ≡ map point_of ds → Stepped seen placed ds k
    → is_seen seen n d ≡ false → index_in n d ≡ Some i → i < n → Stepped (set seen i true) (set placed i (point points k)) ds (k + 1)
step seen placed points ds k i n d h e ls lp g m s f q l =
    let index : index_in (length ds) (get_or ds k null) ≡ Some i = rw (g, ← e) q in
    let clear : list_any (has_this_index (length ds) i) (take k ds) ≡ false = sym (s.seen_is i (omega arith)) ∙ index_clear seen n i d q f in
    record {
      good = good_more ds k s.good (bad_if_seen seen ds n k d false e g s.seen_is f);
      seen_is = seen_more seen ds k i h index (omega arith) s.seen_is;
      placed_is = placed_more placed ds k i (point points k) h index (omega arith) (same_at points ds k h m) clear s.placed_is;
    }

pub placed_end : (placed : List Point) (ds : List Data) (k : ℕ) → k ≡ length ds → length placed ≡ length ds → ArePlaced placed ds k → is_indexed ds ≡ true → map coordinates placed ≡ points_of ds
placed_end placed ds k e l s i = all_placed placed ds l (subst (λ n. ArePlaced placed ds n) e s) i
