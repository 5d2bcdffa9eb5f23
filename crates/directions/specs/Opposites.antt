-- For private clauses.
-- Points in buckets by the keys of their lines through a centre.
use Rattle.std.specs.Prelude.{◌≡◌, ◌≢◌, ℕ, ◌+◌, ◌<◌, ◌≤◌, ◌%◌, List, length, slice_index, Option, Some, None}
use Rattle.plane.specs.declared.coordinates.Point.{Point}
use Rattle.plane.specs.Geometry.{IsBetween}
use Rattle.directions.specs.Key.{line_key}

-- the number at a position
abbrev pub number : List ℕ → ℕ → ℕ
number list k = slice_index list k

-- there are so many buckets, and none has a point
abbrev pub AreClear : List ℕ → ℕ → Type 0
AreClear heads n = (length heads ≡ n) × ((b : ℕ) → b < n → number heads b ≡ 65535)

-- the bucket of the line through p and q
abbrev pub bucket : List Point → (p q : ℕ) → ℕ
bucket S p q = line_key S p q % 16384

-- x is the first point from this index on, other than p, in the bucket, or no point where there is none
abbrev pub IsFirstIn : List Point → (p b from x : ℕ) → Type 0
IsFirstIn S p b from x =
    ((q : ℕ) → from ≤ q → q < x → q < length S → q ≢ p → bucket S p q ≢ b) × (x < length S → (from ≤ x) × (x ≢ p) × (bucket S p x ≡ b))

-- for each point from k on, other than p, the next one in its bucket
pub record AreFollowed (S : List Point) (p k : ℕ) (next : List ℕ) : Type 0 where
  pub count : length next ≡ length S
  pub each : (q : ℕ) → k ≤ q → q < length S → q ≢ p → IsFirstIn S p (bucket S p q) (q + 1) (number next q)

-- the points from k on, other than p, are in their buckets
pub record AreLinked (S : List Point) (p k : ℕ) (heads next : List ℕ) : Type 0 where
  pub room : length heads ≡ 16384
  pub firsts : (b : ℕ) → b < 16384 → IsFirstIn S p b k (number heads b)
  pub follow : AreFollowed S p k next

-- the first point after q that lies opposite to it, seen from p, or none
abbrev pub IsFirstOpposite : List Point → (p q : ℕ) → Option ℕ → Type 0
IsFirstOpposite S p q None = (r : ℕ) → q < r → r < length S → ¬ IsBetween S p q r
IsFirstOpposite S p q (Some r) = (q < r) × (r < length S) × IsBetween S p q r × ((s : ℕ) → q < s → s < r → ¬ IsBetween S p q s)
