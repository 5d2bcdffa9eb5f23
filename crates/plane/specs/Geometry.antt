-- The geometry of points in the plane, over whole numbers without a bound. A point is named by its index. (Textbook.)
use Rattle.std.specs.Prelude.{◌≡◌, ◌≢◌, ℕ, ◌<◌, ◌⊎◌, List, length, slice_index_or, ℤ, pos, ◌+ℤ◌, ◌-ℤ◌, ◌*ℤ◌, ◌<ℤ◌, ◌≤ℤ◌}
use Rattle.plane.specs.declared.coordinates.Point.{Point}
use Rattle.plane.specs.declared.coordinates.Turn.{Turn}
use Rattle.plane.specs.declared.coordinates.Turn.TheVariants.{Left, Straight, Right}

-- the point with this index
abbrev pub point : List Point → ℕ → Point
point S i = slice_index_or S i (record { x = pos 0; y = pos 0 })

-- twice the signed area of the triangle p q r
unfoldable pub area : (p q r : Point) → ℤ
area p q r = (q.x -ℤ p.x) *ℤ (r.y -ℤ p.y) -ℤ (q.y -ℤ p.y) *ℤ (r.x -ℤ p.x)

-- the scalar product of the steps from p to q and from p to r
unfoldable pub scalar : (p q r : Point) → ℤ
scalar p q r = (q.x -ℤ p.x) *ℤ (r.x -ℤ p.x) +ℤ (q.y -ℤ p.y) *ℤ (r.y -ℤ p.y)

-- The orientation of p, q, r: positive exactly where r is strictly left of the line from p to q, and 0 exactly where the
-- three are in line.
abbrev pub orientation : List Point → (p q r : ℕ) → ℤ
orientation S p q r = area (point S p) (point S q) (point S r)

-- the turn that an orientation shows
abbrev pub IsTurn : Turn → ℤ → Type 0
IsTurn Left z = pos 0 <ℤ z
IsTurn Straight z = z ≡ pos 0
IsTurn Right z = z <ℤ pos 0

-- p is strictly between q and r: in line with them, and they lie on its two sides
abbrev pub LiesBetween : (p q r : Point) → Type 0
LiesBetween p q r = (area q p r ≡ pos 0) × (scalar p q r <ℤ pos 0)

abbrev pub IsBetween : List Point → (p q r : ℕ) → Type 0
IsBetween S p q r = LiesBetween (point S p) (point S q) (point S r)

-- two numbers have opposite signs, neither being 0
abbrev pub AreOpposite : (y z : ℤ) → Type 0
AreOpposite y z = ((y <ℤ pos 0) × (pos 0 <ℤ z)) ⊎ ((pos 0 <ℤ y) × (z <ℤ pos 0))

-- the segments a-b and c-d cross: each has its ends strictly on the two sides of the other's line
abbrev pub DoCross : (a b c d : Point) → Type 0
DoCross a b c d = AreOpposite (area a b c) (area a b d) × AreOpposite (area c d a) (area c d b)

abbrev pub AreCrossing : List Point → (a b c d : ℕ) → Type 0
AreCrossing S a b c d = DoCross (point S a) (point S b) (point S c) (point S d)

-- no point is strictly between i and j
abbrev pub IsClear : List Point → (i j : ℕ) → Type 0
IsClear S i j = (k : ℕ) → k < length S → ¬ IsBetween S k i j

-- no point is right of the line from i to j
abbrev pub HasAllLeft : List Point → (i j : ℕ) → Type 0
HasAllLeft S i j = (k : ℕ) → k < length S → pos 0 ≤ℤ orientation S i j k

-- a border pair: it is clear, and all points lie on one closed side of its line
abbrev pub IsBorderPair : List Point → (i j : ℕ) → Type 0
IsBorderPair S i j = IsClear S i j × (HasAllLeft S i j ⊎ HasAllLeft S j i)

-- an inner point is in no border pair
abbrev pub IsInner : List Point → ℕ → Type 0
IsInner S v = (w : ℕ) → w < length S → w ≢ v → ¬ IsBorderPair S v w

-- The need of p for q has the points r other than p that are strictly left of the line from p to q, or that have p
-- strictly between q and themselves.
abbrev pub IsInNeed : List Point → (p q r : ℕ) → Type 0
IsInNeed S p q r = (r ≢ p) × ((pos 0 <ℤ orientation S p q r) ⊎ IsBetween S p q r)

-- s lies in the closed triangle p q r, whose corners are counterclockwise
abbrev pub IsInTriangle : List Point → (p q r s : ℕ) → Type 0
IsInTriangle S p q r s =
    (pos 0 ≤ℤ orientation S p q s) × (pos 0 ≤ℤ orientation S q r s) × (pos 0 ≤ℤ orientation S r p s)

-- the closed triangle p q r has no further point
abbrev pub IsEmptyTriangle : List Point → (p q r : ℕ) → Type 0
IsEmptyTriangle S p q r = (s : ℕ) → s < length S → s ≢ p → s ≢ q → s ≢ r → ¬ IsInTriangle S p q r s
