-- Lists of items: a list's items are its list, and a test that none passes has no position.
use Rattle.std.proofs.Common.{◌≡◌, ℕ, zero, suc, ◌+◌, ◌<◌, ◌≤◌, List, [], ◌∷◌, length, map, get_or, Bool, false, cond, not, Some, None, position, All, refl, sym, ap, ap₂, ◌∙◌, arith, le-ltb, subst}
use Rattle.std.specs.List.{position_or_len, range_with_len}
use Rattle.serde_json.specs.Data.{Data, null, depth, items_depth}
use Rattle.serde_json.specs.View.{items_of}
use Rattle.text_defs.specs.Fields.{list_of, item_at}
use Rattle.text_defs.proofs.laws.IsPlain.{Each}

pub list_of-items_of : (ds : List Data) → list_of (items_of ds) ≡ ds
list_of-items_of [] = refl
list_of-items_of (d ∷ ds) = ap (λ l. d ∷ l) (list_of-items_of ds)

none_passes : {X : Type 0} (p : X → Bool) (xs : List X) → Each (λ x. p x ≡ false) xs → position_or_len p xs ≡ length xs
none_passes p [] h = refl
none_passes p (x ∷ xs) h = ap (λ b. cond (not b) (1 + position_or_len p xs) 0) h.0 ∙ omega (arith, none_passes p xs h.1)

pub position_none : {X : Type 0} (p : X → Bool) (xs : List X) → Each (λ x. p x ≡ false) xs → position p xs ≡ None
position_none p xs h = ap (λ b. cond b (Some (position_or_len p xs)) None) (le-ltb (position_or_len p xs) (length xs) (omega (arith, none_passes p xs h)))

pub Each_map : {A B : Type 0} (P : A → Type 0) (Q : B → Type 0) (f : A → B) (xs : List A) → ((x : A) → P x → Q (f x)) → Each P xs → Each Q (map f xs)
Each_map P Q f [] h a = tt
Each_map P Q f (x ∷ xs) h a = (h x a.0, Each_map P Q f xs h a.1)

-- what stands at each place is the list
pub range_back : {A : Type 0} (f : ℕ → A) (d : A) (k : ℕ) (xs : List A) → ((j : ℕ) → j < length xs → f (k + j) ≡ get_or xs j d) → map f (range_with_len k (length xs)) ≡ xs
range_back f d k [] h = refl
range_back f d k (x ∷ xs) h =
    let here : k + 0 ≡ k = omega arith in
    ap₂ (λ (a : _) (l : List _). a ∷ l) (ap f (sym here) ∙ h 0 (omega arith))
    (range_back f d (k + 1) xs (λ j l. let e : (k + 1) + j ≡ k + suc j = omega arith in ap f e ∙ h (suc j) (omega arith)))

pub range_each : (P : ℕ → Type 0) (k n : ℕ) → ((j : ℕ) → j < n → P (k + j)) → Each P (range_with_len k n)
range_each P k zero h = tt
range_each P k (suc n) h =
    let here : k + 0 ≡ k = omega arith in
    (subst P here (h 0 (omega arith)), range_each P (k + 1) n (λ j l. let e : k + suc j ≡ (k + 1) + j = omega arith in subst P e (h (suc j) (omega arith))))

pub flat_items : (ds : List Data) → Each (λ d. depth d ≤ 1) ds → items_depth (items_of ds) ≤ 1
flat_items [] h = omega arith
flat_items (d ∷ ds) h = let a = h.0 in let b = flat_items ds h.1 in grind (arith, a, b)

pub each : {A : Type 0} (P : A → Type 0) (xs : List A) → All P xs → Each P xs
each P [] h = tt
each P (x ∷ xs) h = (h 0 x (omega arith), each P xs (λ k d l. h (suc k) d (omega arith)))

pub each_at : {A : Type 0} (P : A → Type 0) (xs : List A) (d : A) → Each P xs → (k : ℕ) → k < length xs → P (get_or xs k d)
each_at P [] d h k l = absurd (omega arith)
each_at P (x ∷ xs) d h zero l = h.0
each_at P (x ∷ xs) d h (suc k) l = each_at P xs d h.1 k (omega arith)

pub item_at-get_or : (ds : List Data) (k : ℕ) → item_at ds k ≡ get_or ds k null
item_at-get_or [] k = refl
item_at-get_or (d ∷ ds) zero = refl
item_at-get_or (d ∷ ds) (suc k) = item_at-get_or ds k

-- two lists that are one have one first item, and one rest
pub heads : {A : Type 0} (x y : A) (xs ys : List A) → x ∷ xs ≡ y ∷ ys → x ≡ y
heads x y xs ys e = cc

pub tails : {A : Type 0} (x y : A) (xs ys : List A) → x ∷ xs ≡ y ∷ ys → xs ≡ ys
tails x y xs ys e = cc
