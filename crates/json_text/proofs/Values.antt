-- The capped value of digits.
use Rattle.std.proofs.Common.{◌≡◌, ◌⊎◌, ℕ, ◌+◌, ◌-◌, ◌*◌, ◌<◌, ◌≤◌, min, List, [], ◌∷◌, length, drop, get_or, nat_lt, Some, None, cond, Bool, true, false, ◌^◌, ◌&&◌, refl, sym, ap, ◌∙◌, inl, inr, arith}
use Rattle.std.specs.List.{take_while, list_all}
use Rattle.std.specs.Char.{is_ascii_digit, digit_value}
use Rattle.std.specs.Str.Parse.{digits_value, digits_value_after}
use Rattle.text_defs.specs.Whole.{nearest_64, whole_of_text}
use Rattle.json.specs.Word.{after_minus}
use Rattle.std.proofs.lemmas.Bool.{cases_lt}
use Rattle.std.proofs.lemmas.Bool.Decides.{nat_tests}
use Rattle.std.proofs.lemmas.List.{drop_more}
use Rattle.std.proofs.lemmas.List.Sums.{take_while-cons}

grows : (n : ℕ) (ds : List ℕ) → n ≤ digits_value_after 10 n ds
grows n [] = omega arith
grows n (d ∷ ds) = omega (arith, grows (n * 10 + digit_value d) ds)

capped_cases : (cap n : ℕ) (ds : List ℕ) → (cap < n) ⊎ (n ≤ cap) → min cap (digits_value_after 10 (min cap n) ds) ≡ min cap (digits_value_after 10 n ds)
capped_cases cap n ds (inl h) =
    let e : min cap n ≡ cap = omega arith in
    rw e (omega (arith, grows cap ds, grows n ds))
capped_cases cap n ds (inr h) =
    let e : min cap n ≡ n = omega arith in
    rw e refl

pub capped_same : (cap n : ℕ) (ds : List ℕ) → min cap (digits_value_after 10 (min cap n) ds) ≡ min cap (digits_value_after 10 n ds)
capped_same cap n ds = capped_cases cap n ds (cases_lt cap n)

pub digit_of : (c : ℕ) → is_ascii_digit c ≡ true → digit_value c ≡ c - 48
digit_of c h = grind (arith, nat_tests)

front_digit : (v c : ℕ) (cs : List ℕ) → is_ascii_digit c ≡ true
    → digits_value_after 10 v (take_while is_ascii_digit (c ∷ cs)) ≡ digits_value_after 10 (v * 10 + (c - 48)) (take_while is_ascii_digit cs)
front_digit v c cs d =
    ap (digits_value_after 10 v) (take_while-cons is_ascii_digit c cs)
    ∙ (ap (λ b. digits_value_after 10 v (cond b (c ∷ take_while is_ascii_digit cs) [])) d
    ∙ ap (λ k. digits_value_after 10 (v * 10 + k) (take_while is_ascii_digit cs)) (digit_of c d))

pub value_step : (cap v : ℕ) (xs : List ℕ) (i : ℕ) → i < length xs → is_ascii_digit (get_or xs i 0) ≡ true
    → min cap (digits_value_after 10 (min cap (v * 10 + (get_or xs i 0 - 48))) (take_while is_ascii_digit (drop (i + 1) xs))) ≡ min cap (digits_value_after 10 v (take_while is_ascii_digit (drop i xs)))
value_step cap v xs i h d =
    capped_same cap (v * 10 + (get_or xs i 0 - 48)) (take_while is_ascii_digit (drop (i + 1) xs))
    ∙ ap (min cap) (sym (front_digit v (get_or xs i 0) (drop (i + 1) xs) d) ∙ ap (λ s. digits_value_after 10 v (take_while is_ascii_digit s)) (sym (drop_more xs i 0 h)))

pub all_taken : (ds : List ℕ) → list_all is_ascii_digit ds ≡ true → take_while is_ascii_digit ds ≡ ds
all_taken [] h = refl
all_taken (d ∷ ds) h =
    let first : is_ascii_digit d ≡ true = grind arith in
    let others : list_all is_ascii_digit ds ≡ true = grind arith in
    take_while-cons is_ascii_digit d ds ∙ rw (first, all_taken ds others) refl

capped_sign : (cap n : ℕ) → cap ≡ 2 ^ 63 + 1 → (minus : Bool) → nearest_64 minus (min cap n) ≡ nearest_64 minus n
capped_sign cap n e true = let m : min (min cap n) (2 ^ 63) ≡ min n (2 ^ 63) = omega arith in rw m refl
capped_sign cap n e false = let m : min (min cap n) (2 ^ 63 - 1) ≡ min n (2 ^ 63 - 1) = omega arith in rw m refl

pub nearest_capped : (minus : Bool) (ds : List ℕ) → list_all is_ascii_digit ds ≡ true
    → nearest_64 minus (min 9223372036854775809 (digits_value 10 (take_while is_ascii_digit ds))) ≡ nearest_64 minus (digits_value 10 ds)
nearest_capped minus ds h = capped_sign 9223372036854775809 (digits_value 10 (take_while is_ascii_digit ds)) refl minus ∙ ap (λ s. nearest_64 minus (digits_value 10 s)) (all_taken ds h)

pub nearest_of_text : (text digits : List ℕ) (value : ℕ) → digits ≡ after_minus text → (nat_lt 0 (length digits) && list_all is_ascii_digit digits) ≡ true
    → value ≡ min 9223372036854775809 (digits_value 10 (take_while is_ascii_digit digits)) → whole_of_text text ≡ Some (nearest_64 (nat_lt (length digits) (length text)) value)
nearest_of_text text digits value e d v =
    let all : list_all is_ascii_digit digits ≡ true = grind arith in
    rw (← e, d, v) (ap Some (sym (nearest_capped (nat_lt (length digits) (length text)) digits all)))

pub no_number_of_text : (text digits : List ℕ) → digits ≡ after_minus text → (nat_lt 0 (length digits) && list_all is_ascii_digit digits) ≡ false → whole_of_text text ≡ None
no_number_of_text text digits e d = rw (← e, d) refl
