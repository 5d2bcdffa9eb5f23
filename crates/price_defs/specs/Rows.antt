-- The rows of a certificate: which are right, and what they count. (This project's own choice of rows of a linear program.)
use Rattle.std.specs.Prelude.{◌≡◌, ◌≢◌, ℕ, ◌<◌, ◌⊎◌, List, length, slice_index_or, Option, Some, None, Bool, false, not, ◌&&◌, ◌||◌, nat_eq, int_lt, pos}
use Rattle.std.specs.Ordering.{int_eq}
use Rattle.std.specs.List.{All}
use Rattle.plane.specs.declared.coordinates.Point.{Point}
use Rattle.plane.specs.Geometry.{point, scalar, orientation, IsBetween, IsClear, AreCrossing, IsInner, IsInNeed}
use Rattle.partition_defs.specs.Partition.{HasEnds}
use Rattle.price_defs.specs.declared.row.Row.{Row}
use Rattle.price_defs.specs.declared.row.Row.TheVariants.{Half, Three, Cross, Cap}
use Rattle.cost_defs.specs.Costs.{has_ends}

-- p is strictly between no two points
abbrev pub IsAlone : List Point → ℕ → Type 0
IsAlone S p = (q r : ℕ) → q < length S → r < length S → ¬ IsBetween S p q r

-- a right row
abbrev pub IsRight : List Point → Row → Type 0
IsRight S (Half p q w) = (p < length S) × (q < length S) × (q ≢ p) × IsInner S p
IsRight S (Three p w) = (p < length S) × IsInner S p × IsAlone S p
IsRight S (Cross e f w) = (e.hi < length S) × (f.hi < length S) × AreCrossing S e.lo e.hi f.lo f.hi
IsRight S (Cap e w) = (e.hi < length S) × IsClear S e.lo e.hi

abbrev pub AreRight : List Point → List Row → Type 0
AreRight S = All (IsRight S)

abbrev pub weight : Row → ℕ
weight (Half p q w) = w
weight (Three p w) = w
weight (Cross e f w) = w
weight (Cap e w) = w

-- the row counts the pair i-j
abbrev pub Counts : List Point → Row → (i j : ℕ) → Type 0
Counts S (Half p q w) i j = ((i ≡ p) × IsInNeed S p q j) ⊎ ((j ≡ p) × IsInNeed S p q i)
Counts S (Three p w) i j = (i ≡ p) ⊎ (j ≡ p)
Counts S (Cross e f w) i j = ⊥
Counts S (Cap e w) i j = ⊥

-- the row takes its weight off the load of the pair i-j
abbrev pub Lessens : Row → (i j : ℕ) → Type 0
Lessens (Half p q w) i j = ⊥
Lessens (Three p w) i j = ⊥
Lessens (Cross e f w) i j = HasEnds e i j ⊎ HasEnds f i j
Lessens (Cap e w) i j = HasEnds e i j

-- The same three as tests, for sums over lists.
unfoldable pub is_between : List Point → (p q r : ℕ) → Bool
is_between S p q r = int_eq (orientation S q p r) (pos 0) && int_lt (scalar (point S p) (point S q) (point S r)) (pos 0)

unfoldable pub in_need : List Point → (p q r : ℕ) → Bool
in_need S p q r = not (nat_eq r p) && (int_lt (pos 0) (orientation S p q r) || is_between S p q r)

unfoldable pub counts : List Point → Row → (i j : ℕ) → Bool
counts S (Half p q w) i j = (nat_eq i p && in_need S p q j) || (nat_eq j p && in_need S p q i)
counts S (Three p w) i j = nat_eq i p || nat_eq j p
counts S (Cross e f w) i j = false
counts S (Cap e w) i j = false

unfoldable pub lessens : Row → (i j : ℕ) → Bool
lessens (Half p q w) i j = false
lessens (Three p w) i j = false
lessens (Cross e f w) i j = has_ends e i j || has_ends f i j
lessens (Cap e w) i j = has_ends e i j

-- the point at which a Half or Three row stands
abbrev pub stand : Row → Option ℕ
stand (Half p q w) = Some p
stand (Three p w) = Some p
stand (Cross e f w) = None
stand (Cap e w) = None

-- whether the row is a Half or Three row at p
abbrev pub is_at : ℕ → Row → Bool
is_at p (Half u q w) = nat_eq u p
is_at p (Three u w) = nat_eq u p
is_at p (Cross e f w) = false
is_at p (Cap e w) = false

-- the row at a position
abbrev pub row_at : List Row → ℕ → Row
row_at rows k = slice_index_or rows k (Three 0 0)
