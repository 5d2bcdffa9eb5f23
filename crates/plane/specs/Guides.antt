-- For private clauses.
-- Guide points: points that are furthest out in a direction.
use Rattle.std.specs.Prelude.{ℕ, ◌<◌, List, length, slice_index, ℤ, ◌+ℤ◌, ◌-ℤ◌, neg_ℤ, ◌≤ℤ◌}
use Rattle.std.specs.List.{All}
use Rattle.plane.specs.declared.coordinates.Point.{Point}
use Rattle.plane.specs.declared.guides.Direction.{Direction}
use Rattle.plane.specs.declared.guides.Direction.TheVariants.{East, NorthEast, North, NorthWest, West, SouthWest, South, SouthEast}
use Rattle.plane.specs.Geometry.{point}

-- each number is the index of a point
abbrev pub AreIndices : List Point → List ℕ → Type 0
AreIndices S = All (λ i. i < length S)

-- how far out a point is in a direction
abbrev pub reach_of : Direction → Point → ℤ
reach_of East p = p.x
reach_of NorthEast p = p.x +ℤ p.y
reach_of North p = p.y
reach_of NorthWest p = p.y -ℤ p.x
reach_of West p = neg_ℤ p.x
reach_of SouthWest p = neg_ℤ (p.x +ℤ p.y)
reach_of South p = neg_ℤ p.y
reach_of SouthEast p = p.x -ℤ p.y

-- no point is further out
abbrev pub IsFurthest : List Point → Direction → ℕ → Type 0
IsFurthest S d i = (k : ℕ) → k < length S → reach_of d (point S k) ≤ℤ reach_of d (point S i)

-- the eight points are furthest out in the eight directions, counterclockwise
unfoldable pub AreFurthest : List Point → List ℕ → Type 0
AreFurthest S guides = IsFurthest S East (slice_index guides 0) × IsFurthest S NorthEast (slice_index guides 1)
    × IsFurthest S North (slice_index guides 2) × IsFurthest S NorthWest (slice_index guides 3)
    × IsFurthest S West (slice_index guides 4) × IsFurthest S SouthWest (slice_index guides 5)
    × IsFurthest S South (slice_index guides 6) × IsFurthest S SouthEast (slice_index guides 7)
