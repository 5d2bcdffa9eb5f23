-- The neighbours with a mark, one more at a time.
use Rattle.std.proofs.Common.{◌≡◌, ℕ, ◌+◌, ◌-◌, ◌<◌, ◌≤◌, Bool, true, false, not, List, [], ◌∷◌, ◌++◌, length, take, drop, get_or, arith, ◌∙◌, ap, length-drop, zero, suc, refl, sym, ◌≢◌, append_assoc}
use Rattle.std.specs.List.{slice_range, AllByRecursion}
use Rattle.std.proofs.lemmas.List.{take_more, get_or-drop, map-append}
use Rattle.std.proofs.lemmas.List.Elements.{filter-append}
use Rattle.star.specs.Stars.{entry}
use Rattle.round_defs.specs.Candidates.{pairs_at, pair_of, turned}
use Rattle.round_plans.specs.Listed.{marked, names}

pub marked_append : (kept : Bool) (xs ys : List (ℕ × Bool)) → marked kept (xs ++ ys) ≡ marked kept xs ++ marked kept ys
marked_append true xs ys = filter-append (λ x. x.1) xs ys
marked_append false xs ys = filter-append (λ x. not x.1) xs ys

pub names_append : (kept : Bool) (xs ys : List (ℕ × Bool)) → names (marked kept (xs ++ ys)) ≡ names (marked kept xs) ++ names (marked kept ys)
names_append kept xs ys = ap names (marked_append kept xs ys) ∙ map-append (λ x. x.0) (marked kept xs) (marked kept ys)

pub pairs_append : (v : ℕ) (kept : Bool) (xs ys : List (ℕ × Bool)) → pairs_at v (marked kept (xs ++ ys)) ≡ pairs_at v (marked kept xs) ++ pairs_at v (marked kept ys)
pairs_append v kept xs ys = ap (pairs_at v) (marked_append kept xs ys) ∙ map-append (λ x. pair_of v x.0) (marked kept xs) (marked kept ys)

-- one place more of a part of a list
pub range_more : (list : List (ℕ × Bool)) (k j : ℕ) → k ≤ j → j < length list → slice_range list k (j + 1) ≡ slice_range list k j ++ entry list j ∷ []
range_more list k j h l =
    let more : j + 1 - k ≡ (j - k) + 1 = omega arith in
    let there : k + (j - k) ≡ j = omega arith in
    let inside : j - k < length (drop k list) = (let d = length-drop k list in omega (arith, d, l, h)) in
    ap (λ n. take n (drop k list)) more ∙ take_more (drop k list) (j - k) (0, false) inside
    ∙ ap (λ x. take (j - k) (drop k list) ++ x ∷ []) (get_or-drop k list (j - k) (0, false) ∙ ap (λ n. get_or list n (0, false)) there)

-- nothing stands in an empty list
pub none_turned : (kept : Bool) (n : ℕ) → names (marked kept (turned n (let l : List (ℕ × Bool) = [] in l))) ≡ []
none_turned true zero = refl
none_turned true (suc n) = refl
none_turned false zero = refl
none_turned false (suc n) = refl

pub none_paired : (kept : Bool) (v : ℕ) → pairs_at v (marked kept []) ≡ []
none_paired true v = refl
none_paired false v = refl

-- a neighbour is another point than the centre
pub one_apart : (kept : Bool) (c : ℕ) (x : ℕ × Bool) → x.0 ≢ c → AllByRecursion (λ (q : ℕ). c ≢ q) (names (marked kept (x ∷ [])))
one_apart true c (q, true) h = (λ e. h (sym e), tt)
one_apart true c (q, false) h = tt
one_apart false c (q, true) h = tt
one_apart false c (q, false) h = (λ e. h (sym e), tt)

-- one neighbour more of a part of the list
pub names_more : (kept : Bool) (list : List (ℕ × Bool)) (k j : ℕ) (x : ℕ × Bool) (first now next : List ℕ) → k ≤ j → j < length list → x ≡ entry list j
    → now ≡ first ++ names (marked kept (slice_range list k j)) → next ≡ now ++ names (marked kept (x ∷ [])) → next ≡ first ++ names (marked kept (slice_range list k (j + 1)))
names_more kept list k j x first now next low high at so step =
    let part = slice_range list k j in
    step ∙ ap (λ (z : List ℕ). z ++ names (marked kept (x ∷ []))) so
    ∙ append_assoc first (names (marked kept part)) (names (marked kept (x ∷ [])))
    ∙ ap (λ (z : List ℕ). first ++ z) (sym (names_append kept part (x ∷ [])) ∙ ap (λ (z : ℕ × Bool). names (marked kept (part ++ z ∷ []))) at ∙ ap (λ (z : List (ℕ × Bool)). names (marked kept z)) (sym (range_more list k j low high)))
