-- The whole number of 64 bits with a sign that a value gives (this project's own).
use Rattle.std.specs.Prelude.{ℕ, ◌-◌, ◌^◌, List, length, Bool, ◌&&◌, nat_lt, min, if◌then◌else◌, ℤ, pos, neg_ℤ, Option, Some, None}
use Rattle.std.specs.List.{list_all}
use Rattle.std.specs.Char.{is_ascii_digit}
use Rattle.std.specs.Str.Parse.{digits_value}
use Rattle.json.specs.Word.{after_minus}
use Rattle.serde_json.specs.Data.{Data, null, boolean, number, string, array, object}
use Rattle.serde_json.specs.Find.{as_i64}
use Rattle.text_defs.specs.Numbers.{begins_with_minus}

-- an optional minus and one or more digits
abbrev pub is_whole_text : List ℕ → Bool
is_whole_text text = nat_lt 0 (length (after_minus text)) && list_all is_ascii_digit (after_minus text)

-- n under the sign, or the nearer of the least and the greatest number of 64 bits
abbrev pub nearest_64 : Bool → ℕ → ℤ
nearest_64 minus n = if minus then neg_ℤ (pos (min n (2 ^ 63))) else pos (min n (2 ^ 63 - 1))

abbrev pub whole_of_text : List ℕ → Option ℤ
whole_of_text text = if is_whole_text text then Some (nearest_64 (begins_with_minus text) (digits_value 10 (after_minus text))) else None

abbrev pub whole : Data → Option ℤ
whole null = None
whole (boolean b) = None
whole (number n) = as_i64 n
whole (string text) = whole_of_text text
whole (array ds) = None
whole (object ms) = None
