-- For private clauses.
-- Blocks and strips of points, with boxes.
use Rattle.std.specs.Prelude.{ℕ, ◌*◌, ◌<◌, ◌≤◌, ◌^◌, List, length, slice_index_or}
use Rattle.std.specs.List.{Contains}
use Rattle.plane.specs.declared.coordinates.Point.{Point}
use Rattle.plane.specs.Geometry.{point, LiesBetween}
use Rattle.plane.specs.Accepted.{AreNear}
use Rattle.boxes.specs.declared.bounds.Bounds.{Bounds}
use Rattle.boxes.specs.Bounds.{IsWithin, HasNearCorners}
use Rattle.crossings.specs.Segments.{spot, IsInBlock}

-- the box at this index
abbrev pub bounds_at : List Bounds → ℕ → Bounds
bounds_at B i = slice_index_or B i (spot)

-- the box of block i has each point of the block, where each block has this many
abbrev pub IsBounded : ℕ → List Point → List Bounds → ℕ → Type 0
IsBounded size P B i = (k : ℕ) → IsInBlock size i k → k < length P → IsWithin (bounds_at B i) (point P k)

-- each box has its corners within the limit, and those of the first n have the points of their blocks
pub record AreBoundedBelow (size : ℕ) (P : List Point) (B : List Bounds) (n : ℕ) : Type 0 where
  pub corners : (i : ℕ) → i < length B → HasNearCorners (bounds_at B i)
  pub bounded : (i : ℕ) → i < n → IsBounded size P B i

-- P are points of S in another order, in blocks of 32 with boxes B, and in strips of 288 with boxes T
pub record AreBlocks (S P : List Point) (B T : List Bounds) : Type 0 where
  pub whole : (k : ℕ) → k < length S → Contains P (point S k)
  pub near : AreNear P
  pub room : length P ≤ 32 * length B
  pub strip_room : length P ≤ 288 * length T
  pub few : length B < 2 ^ 32
  pub few_strips : length T < 2 ^ 32
  pub bounded : AreBoundedBelow 32 P B (length B)
  pub strips : AreBoundedBelow 288 P T (length T)

-- none of the points with an index for which P holds lies between a and b
abbrev pub NoneBetween : (ℕ → Type 0) → List Point → (a b : Point) → Type 0
NoneBetween H P a b = (k : ℕ) → H k → k < length P → ¬ LiesBetween (point P k) a b
