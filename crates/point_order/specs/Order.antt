-- The order in which the sweep meets the points: by x, then by y.
use Rattle.std.specs.Prelude.{◌≡◌, ℕ, ◌<◌, List, length, slice_index}
use Rattle.std.specs.List.{Contains}
use Rattle.plane.specs.declared.coordinates.Point.{Point}
use Rattle.partition_defs.specs.Sweep.{IsSweptBefore}

-- the list has all indices of points, each before those that the sweep meets later
pub record IsSweepOrder (S : List Point) (order : List ℕ) : Type 0 where
  pub count : length order ≡ length S
  pub within : (k : ℕ) → k < length order → slice_index order k < length S
  pub whole : (i : ℕ) → i < length S → Contains order i
  pub rising : (k m : ℕ) → k < m → m < length order → IsSweptBefore S (slice_index order k) (slice_index order m)
