-- The fields and items of a value, and the numbers and pairs that they give.
use Rattle.std.specs.Prelude.{ℕ, List, [], ◌∷◌, min, max, Bool, ◌==◌, nat_lt, if◌then◌else◌, ℤ, pos, negsuc, Option, Some, None, is_some, option_and_then, unwrap_or}
use Rattle.std.specs.List.{slice_get}
use Rattle.serde_json.specs.Data.{Data, null, Items, no_items, item}
use Rattle.serde_json.specs.Find.{get, as_array}
use Rattle.text_defs.specs.Whole.{whole}

-- the items of an array, as a list
abbrev pub list_of : Items → List Data
list_of no_items = []
list_of (item d ds) = d ∷ list_of ds

-- the array under this key, if the value is an object and has one
abbrev pub array_at : List ℕ → Data → Option Items
array_at key d = option_and_then as_array (get key d)

-- the whole number under this key
abbrev pub whole_at : List ℕ → Data → Option ℤ
whole_at key d = option_and_then whole (get key d)

abbrev pub has : List ℕ → Data → Bool
has key d = is_some (get key d)

-- the item at this place
abbrev pub item_at : List Data → ℕ → Data
item_at items k = unwrap_or (slice_get items k) null

-- z as a number below n
abbrev pub below : ℕ → ℤ → Option ℕ
below n (pos k) = if nat_lt k n then Some k else None
below n (negsuc k) = None

-- the whole number below n that a value gives
abbrev pub whole_below : ℕ → Data → Option ℕ
whole_below n d = option_and_then (below n) (whole d)

-- the pair of two indices that differ, the smaller first
abbrev pub pair_of : ℕ → ℕ → Option (ℕ × ℕ)
pair_of i j = if i == j then None else Some (min i j, max i j)
