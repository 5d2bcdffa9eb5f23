-- Numbers, indices, pairs and items of a value, where numbers are JSON numbers, never texts.
use Rattle.std.specs.Prelude.{ℕ, List, [], ◌∷◌, length, Bool, false, not, ◌&&◌, nat_lt, nat_le, if◌then◌else◌, Option, Some, None, is_some, option_map, option_and_then, unwrap_or, Result, Err, bytes_eq}
use Rattle.std.specs.List.{position, filter_map}
use Rattle.serde_json.specs.Data.{Data}
use Rattle.serde_json.specs.Find.{as_str, as_array, as_number, as_u64}
use Rattle.text_defs.specs.Steps.{unless}
use Rattle.text_defs.specs.Fields.{list_of, pair_of}

-- the number from 0 on that a value is
abbrev pub natural : Data → Option ℕ
natural d = option_and_then as_u64 (as_number d)

abbrev pub if_within : ℕ → ℕ → ℕ → Option ℕ
if_within low high n = if nat_le low n && nat_le n high then Some n else None

-- the number from low to high
abbrev pub number_within : ℕ → ℕ → Data → Option ℕ
number_within low high d = option_and_then (if_within low high) (natural d)

abbrev pub if_below : ℕ → ℕ → Option ℕ
if_below n k = if nat_lt k n then Some k else None

-- the number below n
abbrev pub index : ℕ → Data → Option ℕ
index n d = option_and_then (if_below n) (natural d)

-- the pair of two different indices below n, given either way round
abbrev pub pair : ℕ → Data → Data → Option (ℕ × ℕ)
pair n a b = option_and_then (λ i. option_and_then (pair_of i) (index n b)) (index n a)

-- whether the value is this text
abbrev pub is_tag : List ℕ → Data → Bool
is_tag tag d = unwrap_or (option_map (bytes_eq tag) (as_str d)) false

abbrev pub array_list : Data → Option (List Data)
array_list d = option_map list_of (as_array d)

-- what each item gives, or the fault of the least place whose item gives nothing
abbrev pub each_or_fault : {A F : Type 0} → (Data → Option A) → (ℕ → F) → List Data → Result (List A) F
each_or_fault read fault items = unless (option_map fault (position (λ d. not (is_some (read d))) items)) (filter_map read items)

-- what each item gives, where each gives something
abbrev pub all_of : {A : Type 0} → (Data → Option A) → List Data → Option (List A)
all_of read [] = Some []
all_of read (d ∷ ds) = option_and_then (λ x. option_map (λ xs. x ∷ xs) (all_of read ds)) (read d)

-- the fault of so many items, or what they are read as
abbrev pub unless_many : {A F : Type 0} → ℕ → (ℕ → F) → List Data → Result A F → Result A F
unless_many most fault items r = if nat_le (length items) most then r else Err (fault (length items))
