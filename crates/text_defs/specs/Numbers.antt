-- The numbers of a text before it is read as JSON (this project's own): each becomes a whole number of 64 bits, or `null`.
use Rattle.std.specs.Prelude.{ℕ, ◌-◌, ◌^◌, List, [], ◌∷◌, ◌++◌, length, take, drop, Bool, false, not, ◌&&◌, ◌||◌, ◌==◌, nat_lt, nat_le, if◌then◌else◌, Option, Some, None, codes}
use Rattle.std.specs.List.{prefix_len, take_while, list_any, flat_map}
use Rattle.std.specs.Char.{is_ascii_digit}
use Rattle.std.specs.Str.Parse.{digits_value}
use Rattle.json.specs.Word.{after_minus, after_number}
use Rattle.text_defs.specs.Pieces.{Piece, quoted, run, other, pieces}

-- nothing is left
abbrev pub is_at_end : Option (List ℕ) → Bool
is_at_end None = false
is_at_end (Some rest) = length rest == 0

-- the whole text is a number (RFC 8259, section 6)
abbrev pub is_number : List ℕ → Bool
is_number text = is_at_end (after_number text)

abbrev pub is_exponent_mark : ℕ → Bool
is_exponent_mark c = (c == 101) || (c == 69)

abbrev pub is_counting_digit : ℕ → Bool
is_counting_digit c = is_ascii_digit c && not (c == 48)

-- of a number: the digits of its whole part, the minus with them, and what follows them
abbrev pub whole_digits : List ℕ → List ℕ
whole_digits number = take_while is_ascii_digit (after_minus number)

abbrev pub whole_part : List ℕ → List ℕ
whole_part number = take (length number - length (after_minus number)) number ++ whole_digits number

abbrev pub after_whole_part : List ℕ → List ℕ
after_whole_part number = drop (prefix_len is_ascii_digit (after_minus number)) (after_minus number)

-- a number with an exponent, or with a fraction that isn't zero
abbrev pub is_broken : List ℕ → Bool
is_broken number = list_any is_exponent_mark number || list_any is_counting_digit (after_whole_part number)

abbrev pub begins_with_minus : List ℕ → Bool
begins_with_minus number = nat_lt (length (after_minus number)) (length number)

-- the number of these digits under this sign is from -(2^63) to 2^63 - 1, or its nearer bound
abbrev pub fits_64 : Bool → ℕ → Bool
fits_64 minus n = if minus then nat_le n (2 ^ 63) else nat_lt n (2 ^ 63)

abbrev pub bound_text : Bool → List ℕ
bound_text minus = if minus then codes "-9223372036854775808" else codes "9223372036854775807"

-- what a number becomes that has no exponent, and no fraction but zero
abbrev pub whole_text : List ℕ → List ℕ
whole_text number =
    if digits_value 10 (whole_digits number) == 0 then codes "0"
    else (if fits_64 (begins_with_minus number) (digits_value 10 (whole_digits number)) then whole_part number
    else bound_text (begins_with_minus number))

-- what a run becomes
unfoldable pub replacement : List ℕ → List ℕ
replacement bytes =
    if not (is_number bytes) then bytes
    else (if is_broken bytes then codes "null" else whole_text bytes)

abbrev pub written : Piece → List ℕ
written (quoted bytes) = bytes
written (run bytes) = replacement bytes
written (other byte) = byte ∷ []

-- the text with its numbers rewritten
unfoldable pub rewritten : List ℕ → List ℕ
rewritten bytes = flat_map written (pieces bytes)
