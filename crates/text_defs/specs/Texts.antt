-- The texts that are written (this project's own, after the challenge's files): compact, the keys in the order of their bytes, as `serde_json` writes a value without floats.
use Rattle.std.specs.Prelude.{ℕ, List, [], ◌∷◌, map, ℤ, codes}
use Rattle.std.specs.List.{enumerate_from}
use Rattle.serde_json.specs.Data.{Data, number, string, array, object, unsigned, no_members, member}
use Rattle.serde_json.specs.Find.{of_integer}
use Rattle.serde_json.specs.View.{items_of}
use Rattle.serde_json.specs.Written.{compact_text}
use Rattle.text_defs.specs.Costs.{CostItem}

abbrev pub index_data : ℕ → Data
index_data i = number (unsigned i)

abbrev pub whole_data : ℤ → Data
whole_data z = number (of_integer z)

-- ---- an instance: its costs, where there are some, its name, and its points by index

abbrev pub point_data : ℕ × (ℤ × ℤ) → Data
point_data p = object (member (codes "i") (index_data p.0) (member (codes "x") (whole_data p.1.0) (member (codes "y") (whole_data p.1.1) no_members)))

abbrev pub instance_data : List ℕ → List (ℤ × ℤ) → Data
instance_data name points =
    object (member (codes "name") (string name) (member (codes "points") (array (items_of (map point_data (enumerate_from 0 points)))) no_members))

abbrev pub cost_data : CostItem → Data
cost_data x = array (items_of (index_data x.0.0 ∷ index_data x.0.1 ∷ index_data x.1 ∷ []))

abbrev pub with_costs : List CostItem → Data → Data
with_costs [] d = d
with_costs (x ∷ costs) (object ms) = object (member (codes "costs") (array (items_of (map cost_data (x ∷ costs)))) ms)
with_costs (x ∷ costs) d = d

unfoldable pub instance_text : List CostItem → List ℕ → List (ℤ × ℤ) → List ℕ
instance_text costs name points = compact_text (with_costs costs (instance_data name points))

-- ---- a solution: its pairs in the order of the list, the smaller index first, and the name of its instance

abbrev pub edge_data : ℕ × ℕ → Data
edge_data e = object (member (codes "i") (index_data e.0) (member (codes "j") (index_data e.1) no_members))

abbrev pub solution_data : List ℕ → List (ℕ × ℕ) → Data
solution_data name edges =
    object (member (codes "edges") (array (items_of (map edge_data edges))) (member (codes "instance_name") (string name) (member (codes "type") (string (codes "Solution")) no_members)))

unfoldable pub solution_text : List ℕ → List (ℕ × ℕ) → List ℕ
solution_text name edges = compact_text (solution_data name edges)
