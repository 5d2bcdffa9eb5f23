-- For private clauses.
-- The neighbours of a star by their marks.
use Rattle.std.specs.Prelude.{ℕ, Bool, true, false, List, map}
use Rattle.plane.specs.declared.segment.Pair.{Pair}
use Rattle.plan_defs.specs.Plans.{Sight, look_at}
use Rattle.round_defs.specs.Candidates.{kept_of, spare_of, pairs_at}

-- the neighbours with this mark
abbrev pub marked : Bool → List (ℕ × Bool) → List (ℕ × Bool)
marked true list = kept_of list
marked false list = spare_of list

abbrev pub names : List (ℕ × Bool) → List ℕ
names list = map (λ x. x.0) list

-- the pairs with this mark at a vertex of the region
abbrev pub marked_at : Bool → List Sight → ℕ → List Pair
marked_at kept R u = pairs_at u (marked kept (look_at R u).list)
