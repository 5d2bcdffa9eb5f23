-- The instance that a value is, or the first fault (this project's own, after the challenge's files).
use Rattle.std.specs.Prelude.{ℕ, List, [], ◌∷◌, length, map, take, Bool, true, false, not, ◌&&◌, ◌==◌, nat_le, if◌then◌else◌, ℤ, pos, Option, None, is_some, option_map, option_and_then, unwrap_or, Result, Ok, Err, codes}
use Rattle.std.specs.List.{position, find, list_any, range_with_len}
use Rattle.serde_json.specs.Data.{Data, null}
use Rattle.serde_json.specs.Find.{get, as_str}
use Rattle.text_defs.specs.Reading.{json_reading}
use Rattle.text_defs.specs.Steps.{◌>>=◌, or_fault, unless, first_fault}
use Rattle.text_defs.specs.Fields.{list_of, array_at, whole_at, has, item_at, below}
use Rattle.text_defs.specs.Costs.{CostItem, CostFault, costs_in}

-- Why a text is no instance. The points' own faults come after these, and those of the costs after the points' own.
pub data Fault : Type 0 where
  not_json : Fault
  no_name : Fault
  long_name : ℕ → Fault
  no_points : Fault
  bad_point : ℕ → Fault
  not_whole : ℕ → Fault
  mixed_index : ℕ → Fault
  bad_index : ℕ → Fault

abbrev pub most_name_bytes : ℕ
most_name_bytes = 1000

-- ---- the name

abbrev pub short_name : List ℕ → Result (List ℕ) Fault
short_name name = if nat_le (length name) most_name_bytes then Ok name else Err (long_name (length name))

abbrev pub name_in : Data → Result (List ℕ) Fault
name_in d = or_fault no_name (option_and_then as_str (get (codes "name") d)) >>= short_name

-- ---- the items of the points, by their places

abbrev pub has_both : Data → Bool
has_both d = has (codes "x") d && has (codes "y") d

abbrev pub is_point : Data → Bool
is_point d = is_some (whole_at (codes "x") d) && is_some (whole_at (codes "y") d)

-- the least place whose item is no point, and what it lacks
abbrev pub point_fault : List Data → Option Fault
point_fault items =
    option_map (λ k. if has_both (item_at items k) then not_whole k else bad_point k) (position (λ d. not (is_point d)) items)

abbrev pub has_index : Data → Bool
has_index d = has (codes "i") d

-- whether item 0 has an index
abbrev pub is_indexed : List Data → Bool
is_indexed items = has_index (item_at items 0)

abbrev pub differs : Bool → Bool → Bool
differs true b = not b
differs false b = b

-- the least place that has an index where item 0 hasn't, or the reverse
abbrev pub mixed_fault : List Data → Option Fault
mixed_fault items = option_map mixed_index (position (λ d. differs (is_indexed items) (has_index d)) items)

-- the index of an item among n, from 0 to n - 1
abbrev pub index_in : ℕ → Data → Option ℕ
index_in n d = option_and_then (below n) (whole_at (codes "i") d)

abbrev pub has_this_index : ℕ → ℕ → Data → Bool
has_this_index n i d = unwrap_or (option_map (λ j. i == j) (index_in n d)) false

-- whether the item at place k has no index from 0 to n - 1, or one that stood before
abbrev pub has_bad_index : List Data → ℕ → Bool
has_bad_index items k =
    unwrap_or (option_map (λ i. list_any (has_this_index (length items) i) (take k items)) (index_in (length items) (item_at items k))) true

abbrev pub index_fault : List Data → Option Fault
index_fault items = option_map bad_index (position (has_bad_index items) (range_with_len 0 (length items)))

abbrev pub points_fault : List Data → Option Fault
points_fault items =
    first_fault (point_fault items ∷ mixed_fault items ∷ (if is_indexed items then index_fault items else None) ∷ [])

-- ---- the points, by index

abbrev pub coordinate : List ℕ → Data → ℤ
coordinate key d = unwrap_or (whole_at key d) (pos 0)

abbrev pub point_of : Data → ℤ × ℤ
point_of d = (coordinate (codes "x") d, coordinate (codes "y") d)

-- the item that has this index
abbrev pub item_of_index : List Data → ℕ → Data
item_of_index items i = unwrap_or (find (has_this_index (length items) i) items) null

abbrev pub points_of : List Data → List (ℤ × ℤ)
points_of items =
    if is_indexed items then map (λ i. point_of (item_of_index items i)) (range_with_len 0 (length items)) else map point_of items

unfoldable pub points_in : Data → Result (List (ℤ × ℤ)) Fault
points_in d = do
  items ← or_fault no_points (array_at (codes "points") d)
  unless (points_fault (list_of items)) (points_of (list_of items))

-- ---- the instance

-- the name and the points, and what its costs are read as once the points are accepted
abbrev pub Parts : Type 0
Parts = List ℕ × List (ℤ × ℤ) × Result (List CostItem) CostFault

unfoldable pub instance_in : Data → Result Parts Fault
instance_in d = do
  name ← name_in d
  points ← points_in d
  Ok (name, points, costs_in (length points) d)

unfoldable pub instance_from : List ℕ → Result Parts Fault
instance_from bytes = or_fault not_json (json_reading bytes) >>= instance_in
