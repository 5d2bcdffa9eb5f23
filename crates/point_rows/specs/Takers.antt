-- What Cross and Cap rows take off, as a list of pairs with weights.
use Rattle.std.specs.Prelude.{ℕ, ◌+◌, ◌*◌, cond, ◌&&◌, nat_eq, List, [], ◌∷◌}
use Rattle.std.specs.List.{sum_by}
use Rattle.plane.specs.declared.segment.Pair.{Pair}
use Rattle.cost_defs.specs.Costs.{has_ends}
use Rattle.price_defs.specs.declared.row.Row.{Row}
use Rattle.price_defs.specs.declared.row.Row.TheVariants.{Half, Three, Cross, Cap}

-- the place of a pair in the order of pairs
abbrev pub key_of : Pair → ℕ
key_of e = e.lo * 4294967296 + e.hi

-- what the list has for the pair i-j
abbrev pub taken : List (Pair × ℕ) → (i j : ℕ) → ℕ
taken T i j = sum_by (λ (x : Pair × ℕ). cond (has_ends x.0 i j) x.1 0) T

-- what a row takes off
abbrev pub takings : Row → List (Pair × ℕ)
takings (Half p q w) = []
takings (Three p w) = []
takings (Cross e f w) = cond (nat_eq e.lo f.lo && nat_eq e.hi f.hi) ((e, w) ∷ []) ((e, w) ∷ (f, w) ∷ [])
takings (Cap e w) = (e, w) ∷ []

-- all that is taken off
abbrev pub all_taken : List (Pair × ℕ) → ℕ
all_taken T = sum_by (λ (x : Pair × ℕ). x.1) T
