-- Which lists of points are accepted, and the first fault of those that aren't. (This project's own limits.)
use Rattle.std.specs.Prelude.{◌≡◌, ◌≢◌, ℕ, ◌<◌, ◌≤◌, List, length, pos, unsigned_abs}
use Rattle.plane.specs.declared.coordinates.Point.{Point}
use Rattle.plane.specs.declared.coordinates.BadPoints.{BadPoints}
use Rattle.plane.specs.declared.coordinates.BadPoints.TheVariants.{TooFew, TooMany, TooFar, SamePlace, OneLine}
use Rattle.plane.specs.First.{IsLeast, IsFirstPair}
use Rattle.plane.specs.Geometry.{point, orientation}

-- both coordinates are from -2305843009213693951 to 2305843009213693951, which is 2^61 - 1
abbrev pub IsNear : Point → Type 0
IsNear p = (unsigned_abs p.x ≤ 2305843009213693951) × (unsigned_abs p.y ≤ 2305843009213693951)

-- 3 to 5,000 points
abbrev pub HasCount : List Point → Type 0
HasCount S = (3 ≤ length S) × (length S ≤ 5000)

abbrev pub AreNear : List Point → Type 0
AreNear S = (i : ℕ) → i < length S → IsNear (point S i)

-- no two points are equal
abbrev pub AreApart : List Point → Type 0
AreApart S = (i j : ℕ) → i < j → j < length S → point S i ≢ point S j

-- any three points are in line
abbrev pub AreOnOneLine : List Point → Type 0
AreOnOneLine S = (p q r : ℕ) → p < length S → q < length S → r < length S → orientation S p q r ≡ pos 0

-- some three points aren't in line
abbrev pub AreSpread : List Point → Type 0
AreSpread S = (p : ℕ) × (q : ℕ) × (r : ℕ) × (p < length S) × (q < length S) × (r < length S) × (orientation S p q r ≢ pos 0)

-- an accepted point set
pub record AreAccepted (S : List Point) : Type 0 where
  pub count : HasCount S
  pub near : AreNear S
  pub apart : AreApart S
  pub spread : AreSpread S

-- the first fault of a list of points, with what it shows
abbrev pub IsFault : List Point → BadPoints → Type 0
IsFault S (TooFew n) = (n ≡ length S) × (n < 3)
IsFault S (TooMany n) = (n ≡ length S) × (5000 < n)
IsFault S (TooFar i) = HasCount S × IsLeast (λ k. ¬ IsNear (point S k)) (length S) i
IsFault S (SamePlace i j) = HasCount S × AreNear S × IsFirstPair (λ k l. point S k ≡ point S l) (length S) i j
IsFault S OneLine = HasCount S × AreNear S × AreApart S × AreOnOneLine S
