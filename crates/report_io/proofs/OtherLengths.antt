-- Arrays of other lengths are no edits and no rows.
use Rattle.std.proofs.Common.{◌≡◌, ◌≢◌, ℕ, ◌<◌, ◌≤◌, List, [], ◌∷◌, map, length, nat_le, Option, Some, None, option_and_then, true, false, refl, sym, ◌∙◌, arith}
use Rattle.std.proofs.lemmas.List.{length-map}
use Rattle.serde_json.specs.Data.{Data}
use Rattle.serde_json.specs.Find.{as_array}
use Rattle.serde_json.specs.View.{view, items_view}
use Rattle.serde_json.specs.declared.value.Value.{Value}
use Rattle.text_defs.specs.Items.{number_within, all_of}
use Rattle.text_defs.proofs.laws.Lists.{list_of-items_of}
use Rattle.report_io.specs.Reading.{edit_in, edit_of, row_in, row_of, commit_in, commit_of, edits_in, edits_of, counts_in, counts_of, most_32}

edit_in-other : (n : ℕ) (ds : List Data) → length ds ≢ 3 → length ds ≢ 5 → edit_in n ds ≡ None
edit_in-other n [] h k = refl
edit_in-other n (t ∷ []) h k = refl
edit_in-other n (t ∷ a ∷ []) h k = refl
edit_in-other n (t ∷ a ∷ b ∷ []) h k = absurd (h refl)
edit_in-other n (t ∷ a ∷ b ∷ c ∷ []) h k = refl
edit_in-other n (t ∷ a ∷ b ∷ c ∷ d ∷ []) h k = absurd (k refl)
edit_in-other n (t ∷ a ∷ b ∷ c ∷ d ∷ e ∷ more) h k = refl

pub edit_of-other : (n : ℕ) (d : Data) (vs : List Value) → Some (items_view vs) ≡ as_array d → length vs ≢ 3 → length vs ≢ 5 → None ≡ edit_of n d
edit_of-other n d vs h k l =
    let same = length-map vs view in
    rw (← h, list_of-items_of (map view vs)) (sym (edit_in-other n (map view vs) (λ e. k (sym same ∙ e)) (λ e. l (sym same ∙ e))))

row_in-other : (n : ℕ) (ds : List Data) → length ds ≢ 3 → length ds ≢ 4 → length ds ≢ 6 → row_in n ds ≡ None
row_in-other n [] h k l = refl
row_in-other n (t ∷ []) h k l = refl
row_in-other n (t ∷ a ∷ []) h k l = refl
row_in-other n (t ∷ a ∷ w ∷ []) h k l = absurd (h refl)
row_in-other n (t ∷ a ∷ b ∷ w ∷ []) h k l = absurd (k refl)
row_in-other n (t ∷ a ∷ b ∷ c ∷ w ∷ []) h k l = refl
row_in-other n (t ∷ a ∷ b ∷ c ∷ d ∷ w ∷ []) h k l = absurd (l refl)
row_in-other n (t ∷ a ∷ b ∷ c ∷ d ∷ e ∷ w ∷ more) h k l = refl

pub row_of-other : (n : ℕ) (d : Data) (vs : List Value) → Some (items_view vs) ≡ as_array d → length vs ≢ 3 → length vs ≢ 4 → length vs ≢ 6 → None ≡ row_of n d
row_of-other n d vs h k l m =
    let same = length-map vs view in
    rw (← h, list_of-items_of (map view vs)) (sym (row_in-other n (map view vs) (λ e. k (sym same ∙ e)) (λ e. l (sym same ∙ e)) (λ e. m (sym same ∙ e))))

commit_in-other : (n : ℕ) (ds : List Data) → length ds ≢ 3 → commit_in n ds ≡ None
commit_in-other n [] h = refl
commit_in-other n (a ∷ []) h = refl
commit_in-other n (a ∷ b ∷ []) h = refl
commit_in-other n (a ∷ b ∷ c ∷ []) h = absurd (h refl)
commit_in-other n (a ∷ b ∷ c ∷ d ∷ more) h = refl

pub commit_of-other : (n : ℕ) (d : Data) (vs : List Value) → Some (items_view vs) ≡ as_array d → length vs ≢ 3 → None ≡ commit_of n d
commit_of-other n d vs h k = rw (← h, list_of-items_of (map view vs)) (sym (commit_in-other n (map view vs) (λ e. k (sym (length-map vs view) ∙ e))))

-- lists whose length is within the limits
pub edits_in-few : (n : ℕ) (vs : List Value) → 1 ≤ length vs → length vs ≤ 8 → edits_in n (map view vs) ≡ all_of (edit_of n) (map view vs)
edits_in-few n vs h k =
    let same = length-map vs view in
    let some : nat_le 1 (length (map view vs)) ≡ true = grind (arith, same) in
    let few : nat_le (length (map view vs)) 8 ≡ true = grind (arith, same) in
    rw (some, few) refl

pub counts_in-few : (vs : List Value) → 1 ≤ length vs → length vs ≤ 17 → counts_in (map view vs) ≡ all_of (number_within 0 most_32) (map view vs)
counts_in-few vs h k =
    let same = length-map vs view in
    let some : nat_le 1 (length (map view vs)) ≡ true = grind (arith, same) in
    let few : nat_le (length (map view vs)) 17 ≡ true = grind (arith, same) in
    rw (some, few) refl

pub edits_of-list : (n : ℕ) (d : Data) (vs : List Value) → Some (items_view vs) ≡ as_array d → edits_of n d ≡ edits_in n (map view vs)
edits_of-list n d vs h = rw (← h, list_of-items_of (map view vs)) refl

pub edits_in-none : (n : ℕ) (vs : List Value) → length vs ≡ 0 → edits_in n (map view vs) ≡ None
edits_in-none n [] h = refl
edits_in-none n (v ∷ vs) h = absurd (omega (arith, h))

pub edits_in-many : (n : ℕ) (vs : List Value) → 8 < length vs → edits_in n (map view vs) ≡ None
edits_in-many n vs h =
    let same = length-map vs view in
    let some : nat_le 1 (length (map view vs)) ≡ true = grind (arith, same) in
    let many : nat_le (length (map view vs)) 8 ≡ false = grind (arith, same) in
    rw (some, many) refl

pub counts_of-list : (o : Option Data) (vs : List Value) → Some (items_view vs) ≡ option_and_then as_array o → option_and_then counts_of o ≡ counts_in (map view vs)
counts_of-list None vs h = absurd (cc)
counts_of-list (Some d) vs h = rw (← h, list_of-items_of (map view vs)) refl

pub counts_in-none : (vs : List Value) → length vs ≡ 0 → counts_in (map view vs) ≡ None
counts_in-none [] h = refl
counts_in-none (v ∷ vs) h = absurd (omega (arith, h))

pub counts_in-many : (vs : List Value) → 17 < length vs → counts_in (map view vs) ≡ None
counts_in-many vs h =
    let same = length-map vs view in
    let some : nat_le 1 (length (map view vs)) ≡ true = grind (arith, same) in
    let many : nat_le (length (map view vs)) 17 ≡ false = grind (arith, same) in
    rw (some, many) refl
