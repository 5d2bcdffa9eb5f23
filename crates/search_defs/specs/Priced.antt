-- The rule of the bound workers, over a given list of words. (This project's own.)
use Rattle.std.specs.Prelude.{◌≡◌, ◌≢◌, ℕ, ◌+◌, ◌-◌, ◌*◌, ◌%◌, ◌⊎◌, List, [], ◌∷◌, ◌++◌, length, map, Bool, true, false, cond, not, ◌&&◌, ◌||◌, nat_eq, nat_lt, nat_le, slice_index}
use Rattle.std.specs.List.{list_any}
use Rattle.plane.specs.declared.coordinates.Point.{Point}
use Rattle.price_defs.specs.declared.row.Row.{Row}
use Rattle.price_defs.specs.declared.row.Row.TheVariants.{Half, Three, Cross, Cap}
use Rattle.price_defs.specs.declared.row.TheConstants.{MOST_ROWS}
use Rattle.cost_defs.specs.Costs.{Costed}
use Rattle.price_defs.specs.Rows.{weight, is_at}
use Rattle.price_defs.specs.Loads.{value}
use Rattle.price_defs.specs.Raising.{reweigh, IsRaisedRow, AreRaised}

-- the row Half(p,r)
abbrev pub is_half : (p r : ℕ) → Row → Bool
is_half p r (Half u q w) = nat_eq u p && nat_eq q r
is_half p r (Three u w) = false
is_half p r (Cross e f w) = false
is_half p r (Cap e w) = false

-- a Cross or Cap row
abbrev pub is_taker : Row → Bool
is_taker (Half u q w) = false
is_taker (Three u w) = false
is_taker (Cross e f w) = true
is_taker (Cap e w) = true

-- the rows at p lose their weight
abbrev pub lowered : ℕ → List Row → List Row
lowered p rows = map (λ row. cond (is_at p row) (reweigh row 0) row) rows

-- Half(p,r) is put at the end, where it isn't there and has room
abbrev pub opened : (p r : ℕ) → List Row → List Row
opened p r rows = cond (list_any (is_half p r) rows || not (nat_lt (length rows) MOST_ROWS)) rows (rows ++ Half p r 0 ∷ [])

-- the first row Half(p,r), where there is one, is raised
abbrev pub IsLifted : List Point → List Costed → ℕ → (p r : ℕ) → (rows out : List Row) → Type 0
IsLifted S D q p r rows out =
    ((list_any (is_half p r) rows ≡ false) × (out ≡ rows))
    ⊎ ((before after : List Row) × (old new : Row) × (rows ≡ before ++ old ∷ after) × (list_any (is_half p r) before ≡ false) × (is_half p r old ≡ true)
    × IsRaisedRow S D q rows old new × (out ≡ before ++ new ∷ after))

-- the trial of p and r
abbrev pub IsTrial : List Point → List Costed → ℕ → (p r : ℕ) → (rows out : List Row) → Type 0
IsTrial S D q p r rows out = (mid : List Row) × IsLifted S D q p r (opened p r (lowered p rows)) mid × AreRaised S D q mid out

-- the trial is taken exactly where its value isn't smaller
abbrev pub taken_of : (q : ℕ) → (rows trial : List Row) → List Row
taken_of q rows trial = cond (nat_le (value 0 q rows) (value 0 q trial)) trial rows

-- the point at position k among those other than p
abbrev pub other_than : (p k : ℕ) → ℕ
other_than p k = cond (nat_lt k p) k (k + 1)

-- a round with the words a and b; the inner points are listed
abbrev pub IsRound : List Point → List Costed → ℕ → List ℕ → (a b : ℕ) → (rows out : List Row) → Type 0
IsRound S D q inner a b rows out =
    let p : ℕ = slice_index inner (a % length inner) in
    (trial : List Row) × IsTrial S D q p (other_than p (b % (length S - 1))) rows trial × (out ≡ taken_of q rows trial)

-- one round after the other, each with the next two words
abbrev pub AreRounds : List Point → List Costed → ℕ → List ℕ → List (ℕ × ℕ) → (rows out : List Row) → Type 0
AreRounds S D q inner [] rows out = out ≡ rows
AreRounds S D q inner (w ∷ words) rows out = (mid : List Row) × IsRound S D q inner w.0 w.1 rows mid × AreRounds S D q inner words mid out

-- what q and the weights are multiplied by at first
abbrev pub factor : ℕ → List Row → ℕ
factor q rows = cond (nat_le q 10000 && not (list_any is_taker rows)) 60 1

abbrev pub scaled : ℕ → List Row → List Row
scaled f rows = map (λ row. reweigh row (weight row * f)) rows

-- the rule: Q and out are the result for q and rows
abbrev pub IsPriced : List Point → List Costed → List ℕ → List (ℕ × ℕ) → (q : ℕ) → (rows : List Row) → (Q : ℕ) → (out : List Row) → Type 0
IsPriced S D inner words q rows Q out =
    (((words ≡ []) ⊎ (inner ≡ [])) × (Q ≡ q) × (out ≡ rows))
    ⊎ ((words ≢ []) × (inner ≢ []) × (Q ≡ q * factor q rows) × AreRounds S D Q inner words (scaled (factor q rows) rows) out)
