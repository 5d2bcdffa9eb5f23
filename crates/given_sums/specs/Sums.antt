-- The sums of a strip: what rows give to the pairs of one of 32 points, from `first` on, and a greater point.
use Rattle.std.specs.Prelude.{◌≡◌, ◌≢◌, ℕ, ◌+◌, ◌*◌, ◌<◌, ◌≤◌, ◌⊎◌, List, length, slice_index_or, pos, ◌<ℤ◌}
use Rattle.plane.specs.declared.coordinates.Point.{Point}
use Rattle.plane.specs.Geometry.{point, area, LiesBetween}
use Rattle.price_defs.specs.declared.row.Row.{Row}
use Rattle.price_defs.specs.declared.row.Row.TheVariants.{Half, Three, Cross, Cap}
use Rattle.price_defs.specs.declared.row.TheConstants.{MOST_ROWS}
use Rattle.price_defs.specs.Limits.{AreLight}
use Rattle.price_defs.specs.Loads.{given, gives}

-- points, rows, and the first of the strip's points
pub record Strip : Type 0 where
  pub points : List Point
  pub rows : List Row
  pub first : ℕ

-- the number at a position
abbrev pub entry : List ℕ → ℕ → ℕ
entry sums k = slice_index_or sums k 0

-- the position of the pair of first + a and first + b
abbrev pub place : (width a b : ℕ) → ℕ
place width a b = a * width + b

-- the sums are those of the strip's pairs; width points are there from first on
pub record AreSums (S : List Point) (rows : List Row) (first width : ℕ) (sums : List ℕ) : Type 0 where
  pub reach : first + width ≡ length S
  pub count : length sums ≡ 32 * width
  pub each : (a b : ℕ) → a < 32 → a < b → b < width → entry sums (place width a b) ≡ gives S rows (first + a) (first + b)

-- what holds of the sums of a strip that is kept
pub record IsStrip (S : List Point) (rows : List Row) (first width : ℕ) (sums : List ℕ) : Type 0 where
  pub few : length rows ≤ MOST_ROWS
  pub light : AreLight rows
  pub all : AreSums S rows first width sums

-- The rest is for private clauses.

-- the point for whose need a Half row stands; of another row any point
abbrev pub IsAim : List Point → Row → Point → Type 0
IsAim S (Half p q w) a = a ≡ point S q
IsAim S (Three p w) a = Unit {0}
IsAim S (Cross e f w) a = Unit {0}
IsAim S (Cap e w) a = Unit {0}

-- r is strictly left of the line from p to q, or p is strictly between q and r
abbrev pub IsAhead : (p q r : Point) → Type 0
IsAhead p q r = (pos 0 <ℤ area p q r) ⊎ LiesBetween p q r

-- no sum is near the limit of 64 bits: one row more may be added, or half of it
pub record AreBelow (most width : ℕ) (sums : List ℕ) : Type 0 where
  pub count : length sums ≡ 32 * width
  pub each : (a b : ℕ) → a < 32 → a < b → b < width → entry sums (place width a b) ≤ most

abbrev pub HasRoomFor : ℕ → List ℕ → Type 0
HasRoomFor = AreBelow 200000000000000000

abbrev pub HasRoom : ℕ → List ℕ → Type 0
HasRoom = AreBelow 300000000000000000

-- the row was added to all sums
pub record IsAdded (S : List Point) (row : Row) (first width : ℕ) (old new : List ℕ) : Type 0 where
  pub count : length new ≡ length old
  pub each : (a b : ℕ) → a < 32 → a < b → b < width → entry new (place width a b) ≡ entry old (place width a b) + given S (first + a) (first + b) row

-- the row at p was added to the pairs with p as lesser end alone
pub record IsAddedAfter (S : List Point) (row : Row) (p first width : ℕ) (old new : List ℕ) : Type 0 where
  pub count : length new ≡ length old
  pub line : (a b : ℕ) → a < 32 → a < b → b < width → first + a ≡ p → entry new (place width a b) ≡ entry old (place width a b) + given S p (first + b) row
  pub rest : (a b : ℕ) → a < 32 → a < b → b < width → first + a ≢ p → entry new (place width a b) ≡ entry old (place width a b)

-- the row at p was added to the pairs with p as greater end alone
pub record IsAddedBefore (S : List Point) (row : Row) (p first width : ℕ) (old new : List ℕ) : Type 0 where
  pub count : length new ≡ length old
  pub column : (a b : ℕ) → a < 32 → a < b → b < width → first + b ≡ p → entry new (place width a b) ≡ entry old (place width a b) + given S p (first + a) row
  pub rest : (a b : ℕ) → a < 32 → a < b → b < width → first + b ≢ p → entry new (place width a b) ≡ entry old (place width a b)

-- the row at p was added to the pairs of the line a with columns below k
pub record IsLine (S : List Point) (row : Row) (p first width a k : ℕ) (old new : List ℕ) : Type 0 where
  pub count : length new ≡ length old
  pub done : (b : ℕ) → a < b → b < k → b < width → entry new (place width a b) ≡ entry old (place width a b) + given S p (first + b) row
  pub left : (b : ℕ) → k ≤ b → b < width → entry new (place width a b) ≡ entry old (place width a b)
  pub rest : (c b : ℕ) → c ≢ a → b < width → entry new (place width c b) ≡ entry old (place width c b)

-- the row at p was added to the pairs of the column b with lines below k
pub record IsColumn (S : List Point) (row : Row) (p first width b k : ℕ) (old new : List ℕ) : Type 0 where
  pub count : length new ≡ length old
  pub done : (a : ℕ) → a < k → entry new (place width a b) ≡ entry old (place width a b) + given S p (first + a) row
  pub left : (a : ℕ) → k ≤ a → entry new (place width a b) ≡ entry old (place width a b)
  pub rest : (a c : ℕ) → c ≢ b → c < width → entry new (place width a c) ≡ entry old (place width a c)
