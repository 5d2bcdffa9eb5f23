-- The pairs that a value is as a solution over n points, or the first fault (this project's own, after the challenge's files).
use Rattle.std.specs.Prelude.{ℕ, List, length, not, nat_le, if◌then◌else◌, Option, is_some, option_map, option_and_then, Result, Err, codes}
use Rattle.std.specs.List.{position, filter_map}
use Rattle.serde_json.specs.Data.{Data}
use Rattle.text_defs.specs.Reading.{json_reading}
use Rattle.text_defs.specs.Steps.{◌>>=◌, or_fault, unless}
use Rattle.text_defs.specs.Fields.{list_of, array_at, whole_at, below, pair_of}

pub data Fault : Type 0 where
  not_json : Fault
  no_edges : Fault
  too_many_edges : ℕ → Fault
  bad_edge : ℕ → Fault

abbrev pub most_edges : ℕ
most_edges = 20000

-- the index from 0 to n - 1 under this key
abbrev pub end_at : ℕ → List ℕ → Data → Option ℕ
end_at n key d = option_and_then (below n) (whole_at key d)

abbrev pub edge_of : ℕ → Data → Option (ℕ × ℕ)
edge_of n d = option_and_then (λ i. option_and_then (pair_of i) (end_at n (codes "j") d)) (end_at n (codes "i") d)

-- the least place whose item is no edge
abbrev pub edge_fault : ℕ → List Data → Option Fault
edge_fault n items = option_map bad_edge (position (λ d. not (is_some (edge_of n d))) items)

abbrev pub edges_of : ℕ → List Data → Result (List (ℕ × ℕ)) Fault
edges_of n items =
    if nat_le (length items) most_edges then unless (edge_fault n items) (filter_map (edge_of n) items)
    else Err (too_many_edges (length items))

unfoldable pub edges_in : ℕ → Data → Result (List (ℕ × ℕ)) Fault
edges_in n d = do
  items ← or_fault no_edges (array_at (codes "edges") d)
  edges_of n (list_of items)

unfoldable pub edges_from : ℕ → List ℕ → Result (List (ℕ × ℕ)) Fault
edges_from n bytes = or_fault not_json (json_reading bytes) >>= edges_in n
