-- A whole number's text is one piece, which stays as it is.
use Rattle.std.proofs.Common.{◌≡◌, ℕ, suc, ◌+◌, ◌-◌, ◌^◌, ◌<◌, ◌≤◌, pos, negsuc, List, [], ◌∷◌, ◌++◌, length, take, drop, Bool, true, false, cond, ◌&&◌, ◌||◌, eqb, decimal, nat_lt, refl, sym, ap, ap₂, ◌∙◌, arith, ne_eqb, le-leb, lt-ltb, codes, take_while}
use Rattle.std.proofs.Math.Seq.{take-append_seam, drop-append_seam, drop-length, take-length}
use Rattle.std.proofs.lemmas.Bool.{and_from, and_parts}
use Rattle.std.proofs.lemmas.Bool.Decides.{nat_tests}
use Rattle.std.proofs.lemmas.Fmt.{decimal_is_IsNumeral, decimal_digit}
use Rattle.std.specs.Char.{is_ascii_digit, digit_value}
use Rattle.std.specs.List.{prefix_len, list_any}
use Rattle.std.specs.Str.Parse.{AllDigits, digits_value}
use Rattle.json.specs.Print.{IsNumber}
use Rattle.json.specs.Word.{after_minus}
use Rattle.serde_json.specs.Data.{Num, unsigned, negative, float}
use Rattle.serde_json.specs.Written.{number_text}
use Rattle.text_defs.specs.Pieces as text
use Rattle.text_defs.specs.Pieces.{is_number_byte, pieces}
use Rattle.text_defs.specs.Numbers.{is_broken, is_exponent_mark, is_counting_digit, whole_digits, after_whole_part, begins_with_minus, fits_64, replacement}
use Rattle.text_defs.proofs.laws.Pieces.{pieces-run}
use Rattle.text_defs.proofs.laws.IsPlain.{IsWhole64}
use Rattle.json.proofs.Printed.Utf8.{are_ascii}
use Rattle.text_defs.proofs.laws.ReadBack as back

-- ---- one piece

abbrev pub are_number_bytes : List ℕ → Bool
are_number_bytes [] = true
are_number_bytes (c ∷ cs) = is_number_byte c && are_number_bytes cs

-- no number byte stands first
abbrev pub Breaks : List ℕ → Type 0
Breaks rest = prefix_len is_number_byte rest ≡ 0

run_len : (cs rest : List ℕ) → are_number_bytes cs ≡ true → Breaks rest → prefix_len is_number_byte (cs ++ rest) ≡ length cs
run_len [] rest h b = b
run_len (c ∷ cs) rest h b = let p = and_parts (is_number_byte c) (are_number_bytes cs) h in ap (λ t. cond t (1 + prefix_len is_number_byte (cs ++ rest)) 0) p.0 ∙ omega (arith, run_len cs rest p.1 b)

no_quote : (c : ℕ) → is_number_byte c ≡ true → eqb c 34 ≡ false
no_quote c h = grind (arith, nat_tests)

pub pieces-number : (cs rest : List ℕ) → 0 < length cs → are_number_bytes cs ≡ true → Breaks rest → pieces (cs ++ rest) ≡ text.run cs ∷ pieces rest
pieces-number [] rest some h b = absurd (omega arith)
pieces-number (c ∷ cs) rest some h b =
    let p = and_parts (is_number_byte c) (are_number_bytes cs) h in
    let n = run_len cs rest p.1 b in
    pieces-run c (cs ++ rest) (no_quote c p.0) p.0 ∙ ap₂ (λ (x y : List ℕ). text.run (c ∷ x) ∷ pieces y)
    (ap (λ k. take k (cs ++ rest)) n ∙ take-append_seam cs rest) (ap (λ k. drop k (cs ++ rest)) n ∙ drop-append_seam cs rest)

digit_byte : (d : ℕ) → digit_value d < 10 → is_ascii_digit d ≡ true
digit_byte d h =
    let low : 48 ≤ d = grind arith in
    let high : d ≤ 57 = grind arith in
    and_from _ _ (le-leb 48 d low) (le-leb d 57 high)

digits_number : (ds : List ℕ) → AllDigits 10 ds → are_number_bytes ds ≡ true
digits_number [] h = refl
digits_number (d ∷ ds) h = rw (digit_byte d h.0) (digits_number ds h.1)

-- ---- the rewriting of digits

digits_len : (ds : List ℕ) → AllDigits 10 ds → prefix_len is_ascii_digit ds ≡ length ds
digits_len [] h = refl
digits_len (d ∷ ds) h = rw (digit_byte d h.0) (omega (arith, digits_len ds h.1))

digits_taken : (ds : List ℕ) → AllDigits 10 ds → take_while is_ascii_digit ds ≡ ds
digits_taken [] h = refl
digits_taken (d ∷ ds) h = ap (λ n. take n (d ∷ ds)) (digits_len (d ∷ ds) h) ∙ take-length (d ∷ ds)

no_mark : (d : ℕ) → digit_value d < 10 → is_exponent_mark d ≡ false
no_mark d h =
    let low : 48 ≤ d = grind arith in
    let high : d ≤ 57 = grind arith in
    rw (ne_eqb d 101 (λ e. omega arith), ne_eqb d 69 (λ e. omega arith)) refl

digits_unmarked : (ds : List ℕ) → AllDigits 10 ds → list_any is_exponent_mark ds ≡ false
digits_unmarked [] h = refl
digits_unmarked (d ∷ ds) h = rw (no_mark d h.0) (digits_unmarked ds h.1)

no_minus : (ds : List ℕ) → AllDigits 10 ds → after_minus ds ≡ ds
no_minus [] h = refl
no_minus (d ∷ ds) h =
    let low : 48 ≤ d = grind (arith, h.0) in
    rw (ne_eqb d 45 (λ e. omega arith)) refl

-- what the rewriting looks at in a number of an optional minus and digits
record Plain (text ds sign : List ℕ) (minus : Bool) : Type 0 where
  number : IsNumber text
  unmarked : list_any is_exponent_mark text ≡ false
  all : AllDigits 10 ds
  after : after_minus text ≡ ds
  taken : take (length text - length (after_minus text)) text ≡ sign
  same : sign ++ ds ≡ text
  begins : begins_with_minus text ≡ minus

stays : (text ds sign : List ℕ) (minus : Bool) → Plain text ds sign minus → fits_64 minus (digits_value 10 ds) ≡ true
    → (digits_value 10 ds ≡ 0 → codes "0" ≡ text) → replacement text ≡ text
unfolding replacement
stays text ds sign minus p fits naught =
    let digits : whole_digits text ≡ ds = ap (take_while is_ascii_digit) p.after ∙ digits_taken ds p.all in
    let nothing : after_whole_part text ≡ [] = ap (λ l. drop (prefix_len is_ascii_digit l) l) p.after ∙ (ap (λ n. drop n ds) (digits_len ds p.all) ∙ drop-length ds) in
    let part : take (length text - length (after_minus text)) text ++ ds ≡ text = ap (λ a. a ++ ds) p.taken ∙ p.same in
    let broken : is_broken text ≡ false = ap₂ (λ (a : Bool) (b : List ℕ). a || list_any is_counting_digit b) p.unmarked nothing in
    let P : Bool → Type 0 = λ z. eqb (digits_value 10 ds) 0 ≡ z → cond z (codes "0") (take (length text - length (after_minus text)) text ++ ds) ≡ text in
    let all : (z : Bool) → P z = λ z. elim z as P [ true ↦ λ e. naught (is_zero (digits_value 10 ds) e) | false ↦ λ e. part ] in
    rw (p.number, broken, digits, p.begins, fits) (all (eqb (digits_value 10 ds) 0) refl)
  where
    is_zero : (n : ℕ) → eqb n 0 ≡ true → n ≡ 0
    is_zero n e = grind arith

decimal_stays : (n : ℕ) → n < 2 ^ 63 → replacement (decimal n) ≡ decimal n
decimal_stays n h =
    let i = decimal_is_IsNumeral n (omega arith) in
    let ds = decimal n in
    let after = no_minus ds i.0.1 in
    let none : length ds - length (after_minus ds) ≡ 0 = omega (arith, ap length after) in
    stays ds ds [] false (record {
      number = back.is_number (unsigned n) h;
      unmarked = digits_unmarked ds i.0.1;
      all = i.0.1;
      after = after;
      taken = ap (λ k. take k ds) none;
      same = refl;
      begins = rw after (not_below (length ds));
    }) (rw i.1 (lt-ltb n (2 ^ 63) h)) (λ z. let e : n ≡ 0 = sym i.1 ∙ z in sym (ap decimal e ∙ decimal_digit 0 (omega arith)))
  where
    not_below : (k : ℕ) → nat_lt k k ≡ false
    not_below k = grind arith

negative_stays : (n : ℕ) → n < 2 ^ 63 → replacement (45 ∷ decimal (suc n)) ≡ 45 ∷ decimal (suc n)
negative_stays n h =
    let i = decimal_is_IsNumeral (suc n) (omega arith) in
    let ds = decimal (suc n) in
    let one_more : length (45 ∷ ds) - length ds ≡ 1 = omega arith in
    stays (45 ∷ ds) ds (45 ∷ []) true (record {
      number = back.is_number (negative (negsuc n)) h;
      unmarked = digits_unmarked ds i.0.1;
      all = i.0.1;
      after = refl;
      taken = ap (λ k. take k (45 ∷ ds)) one_more;
      same = refl;
      begins = lt-ltb (length ds) (length (45 ∷ ds)) (omega arith);
    }) (rw i.1 (le-leb (suc n) (2 ^ 63) (omega arith))) (λ z. absurd (let e : suc n ≡ 0 = sym i.1 ∙ z in omega arith))

pub number_stays : (n : Num) → IsWhole64 n → replacement (number_text n) ≡ number_text n
number_stays (unsigned n) h = decimal_stays n h
number_stays (negative (pos n)) h = absurd h
number_stays (negative (negsuc n)) h = negative_stays n h
number_stays (float x) h = absurd h

pub number_piece : (n : Num) (rest : List ℕ) → IsWhole64 n → Breaks rest → pieces (number_text n ++ rest) ≡ text.run (number_text n) ∷ pieces rest
number_piece (unsigned n) rest h b = let i = decimal_is_IsNumeral n (omega arith) in pieces-number (decimal n) rest i.0.0 (digits_number (decimal n) i.0.1) b
number_piece (negative (pos n)) rest h b = absurd h
number_piece (negative (negsuc n)) rest h b = let i = decimal_is_IsNumeral (suc n) (omega arith) in pieces-number (45 ∷ decimal (suc n)) rest (omega arith) (digits_number (decimal (suc n)) i.0.1) b
number_piece (float x) rest h b = absurd h

pub number_bytes : (n : Num) → IsWhole64 n → are_number_bytes (number_text n) ≡ true
number_bytes (unsigned n) h = digits_number (decimal n) (decimal_is_IsNumeral n (omega arith)).0.1
number_bytes (negative (pos n)) h = absurd h
number_bytes (negative (negsuc n)) h = digits_number (decimal (suc n)) (decimal_is_IsNumeral (suc n) (omega arith)).0.1
number_bytes (float x) h = absurd h

number_bytes_ascii : (cs : List ℕ) → are_number_bytes cs ≡ true → are_ascii cs ≡ true
number_bytes_ascii [] h = refl
number_bytes_ascii (c ∷ cs) h = let p = and_parts (is_number_byte c) (are_number_bytes cs) h in and_from _ _ (lt-ltb c 128 (small c p.0)) (number_bytes_ascii cs p.1)
  where
    small : (c : ℕ) → is_number_byte c ≡ true → c < 128
    small c h = grind (arith, nat_tests)

pub number_ascii : (n : Num) → IsWhole64 n → are_ascii (number_text n) ≡ true
number_ascii n h = number_bytes_ascii (number_text n) (number_bytes n h)
