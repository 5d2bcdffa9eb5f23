-- For private clauses.
-- The points with their indices, in the order of the sweep.
use Rattle.std.specs.Prelude.{◌≡◌, ℕ, ◌<◌, List, length, slice_index_or}
use Rattle.std.specs.List.{All, Contains}
use Rattle.plane.specs.declared.coordinates.Point.{Point}
use Rattle.plane.specs.Geometry.{point}
use Rattle.partition_defs.specs.Sweep.{IsSweptBefore}

-- each point with its index, in that order
pub record ArePlaced (S : List Point) (placed : List (Point × ℕ)) : Type 0 where
  pub count : length placed ≡ length S
  pub each : All (λ e. (e.1 < length S) × (e.0 ≡ point S e.1)) placed
  pub whole : (i : ℕ) → i < length S → Contains placed (point S i, i)
  pub rising : (k m : ℕ) (d : Point × ℕ) → k < m → m < length placed → IsSweptBefore S (slice_index_or placed k d).1 (slice_index_or placed m d).1
