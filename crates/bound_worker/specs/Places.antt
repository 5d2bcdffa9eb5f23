-- For private clauses.
-- Where the first row Half(p,r) stands, and rows with one more at the end.
use Rattle.std.specs.Prelude.{◌≡◌, ◌≢◌, ℕ, ◌<◌, ◌⊎◌, List, [], ◌∷◌, ◌++◌, length, take, Option, Some, None, true, false}
use Rattle.std.specs.List.{list_any}
use Rattle.price_defs.specs.declared.row.Row.{Row}
use Rattle.price_defs.specs.declared.row.Row.TheVariants.{Half}
use Rattle.price_defs.specs.Rows.{row_at, stand}
use Rattle.search_defs.specs.Priced.{is_half, opened}
use Rattle.bound_worker.specs.Ends.{end_at}

-- the position of the first row Half(p,r), or none
abbrev pub IsPlace : (p r : ℕ) → List Row → Option ℕ → Type 0
IsPlace p r rows None = list_any (is_half p r) rows ≡ false
IsPlace p r rows (Some k) = (k < length rows) × (is_half p r (row_at rows k) ≡ true) × (list_any (is_half p r) (take k rows) ≡ false)

-- Half(p,r) is put at the end, where it isn't there and has room; some end is noted for it
abbrev pub IsOpened : (p r : ℕ) → (rows : List Row) → (old : List ℕ) → (new : List Row) → (ends : List ℕ) → Type 0
IsOpened p r rows old new ends =
    (((new ≡ rows) × (ends ≡ old)) ⊎ ((new ≡ rows ++ Half p r 0 ∷ []) × (ends ≡ old ++ 0 ∷ []))) × (new ≡ opened p r rows)

-- the row stands elsewhere than at p, and so does the end that is noted for it
abbrev pub IsElsewhere : (p k : ℕ) → Row → List ℕ → Type 0
IsElsewhere p k row ends = (u : ℕ) × (stand row ≡ Some u) × (u ≢ p) × (end_at ends k ≢ p)
