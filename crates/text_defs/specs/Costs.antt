-- The costs that an instance has, as its text gives them, or their first fault. (This project's own.)
use Rattle.std.specs.Prelude.{ℕ, ◌+◌, List, [], ◌∷◌, length, take, Bool, true, false, ◌&&◌, ◌==◌, nat_le, if◌then◌else◌, Option, Some, None, option_map, option_and_then, unwrap_or, Result, Ok, Err, codes}
use Rattle.std.specs.List.{position, list_any, filter_map, range_with_len}
use Rattle.std.specs.Map.{lookup}
use Rattle.serde_json.specs.Data.{Data}
use Rattle.serde_json.specs.Find.{get, as_array}
use Rattle.text_defs.specs.Steps.{◌>>=◌, or_fault, unless}
use Rattle.text_defs.specs.Fields.{list_of, item_at, whole_below, pair_of}

pub data CostFault : Type 0 where
  bad_costs : CostFault
  too_many_costs : ℕ → CostFault
  bad_cost : ℕ → CostFault

-- a pair by its ends, the smaller first, and its cost
abbrev pub CostItem : Type 0
CostItem = (ℕ × ℕ) × ℕ

abbrev pub most_costs : ℕ
most_costs = 300000

abbrev pub most_cost : ℕ
most_cost = 1000

-- the pair of two different indices below n, given either way round
abbrev pub whole_pair : ℕ → Data → Data → Option (ℕ × ℕ)
whole_pair n a b = option_and_then (λ i. option_and_then (pair_of i) (whole_below n b)) (whole_below n a)

-- three whole numbers: the two ends of a pair, and its cost
abbrev pub cost_in : ℕ → List Data → Option CostItem
cost_in n [] = None
cost_in n (a ∷ []) = None
cost_in n (a ∷ b ∷ []) = None
cost_in n (a ∷ b ∷ c ∷ []) = option_and_then (λ e. option_map (λ w. (e, w)) (whole_below (most_cost + 1) c)) (whole_pair n a b)
cost_in n (a ∷ b ∷ c ∷ d ∷ more) = None

abbrev pub cost_of : ℕ → Data → Option CostItem
cost_of n d = option_and_then (cost_in n) (option_map list_of (as_array d))

abbrev pub is_same_pair : (e f : ℕ × ℕ) → Bool
is_same_pair e f = (e.0 == f.0) && (e.1 == f.1)

abbrev pub has_this_pair : ℕ → ℕ × ℕ → Data → Bool
has_this_pair n e d = unwrap_or (option_map (λ x. is_same_pair e x.0) (cost_of n d)) false

-- whether the item at place k gives no cost, or one of a pair that stood before
abbrev pub has_bad_cost : ℕ → List Data → ℕ → Bool
has_bad_cost n items k = unwrap_or (option_map (λ x. list_any (has_this_pair n x.0) (take k items)) (cost_of n (item_at items k))) true

abbrev pub cost_fault : ℕ → List Data → Option CostFault
cost_fault n items = option_map bad_cost (position (has_bad_cost n items) (range_with_len 0 (length items)))

abbrev pub costs_of : ℕ → List Data → Result (List CostItem) CostFault
costs_of n items =
    if nat_le (length items) most_costs then unless (cost_fault n items) (filter_map (cost_of n) items)
    else Err (too_many_costs (length items))

abbrev pub costs_under : ℕ → Option Data → Result (List CostItem) CostFault
costs_under n None = Ok []
costs_under n (Some d) = or_fault bad_costs (option_map list_of (as_array d)) >>= costs_of n

-- the items of the costs of an instance with n points, in their order
unfoldable pub costs_in : ℕ → Data → Result (List CostItem) CostFault
costs_in n d = costs_under n (get (codes "costs") d)

-- the cost of a pair: what its item says, and 1 where it has none
abbrev pub item_cost : List CostItem → (i j : ℕ) → ℕ
item_cost items i j = unwrap_or (lookup (is_same_pair (i, j)) items) 1
