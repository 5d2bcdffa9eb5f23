-- The segments of a list in another order, in blocks with boxes. (This project's own.)
use Rattle.std.specs.Prelude.{◌≡◌, ℕ, ◌+◌, ◌*◌, ◌<◌, ◌≤◌, ◌⊎◌, List, length, slice_index_or, pos, ◌≤ℤ◌}
use Rattle.std.specs.List.{All, Any}
use Rattle.plane.specs.declared.coordinates.Point.{Point}
use Rattle.plane.specs.declared.segment.Pair.{Pair}
use Rattle.plane.specs.Geometry.{point}
use Rattle.plane.specs.Accepted.{IsNear}
use Rattle.boxes.specs.declared.bounds.Bounds.{Bounds}
use Rattle.boxes.specs.Bounds.{IsWithin, HasNearCorners}
use Rattle.crossings.specs.declared.segments.Segment.{Segment}
use Rattle.crossings.specs.declared.blocks.Block.{Block}
use Rattle.crossings.specs.Crossings.{IsPairAt}

-- the point with both coordinates 0
abbrev pub origin : Point
origin = record { x = pos 0; y = pos 0 }

-- the segment at this index
abbrev pub segment : List Segment → ℕ → Segment
segment Z k = slice_index_or Z k (record { from = origin; to = origin; place = 0 })

-- p and q are the ends of e, either way round
abbrev pub AreEndsOf : List Point → Pair → (p q : Point) → Type 0
AreEndsOf S e p q = ((p ≡ point S e.lo) × (q ≡ point S e.hi)) ⊎ ((p ≡ point S e.hi) × (q ≡ point S e.lo))

-- z has the ends of the pair at its place, the second one not left of the first
abbrev pub IsSegment : List Point → List Pair → Segment → Type 0
IsSegment S K z = (e : Pair) × IsPairAt K z.place e × AreEndsOf S e z.from z.to × IsNear z.from × IsNear z.to × (z.from.x ≤ℤ z.to.x)

-- Z has the segments of all pairs of K, and no others
pub record AreSegments (S : List Point) (K : List Pair) (Z : List Segment) : Type 0 where
  pub each : All (IsSegment S K) Z
  pub whole : (k : ℕ) → k < length K → Any (λ z. z.place ≡ k) Z

-- all corners of the boxes of a block are within the limit of coordinates
abbrev pub HasNearBoxes : Block → Type 0
HasNearBoxes b = HasNearCorners b.from × HasNearCorners b.to × HasNearCorners b.both

-- the boxes of the block have the ends of z
abbrev pub HasSegment : Block → Segment → Type 0
HasSegment b z = IsWithin b.from z.from × IsWithin b.to z.to × IsWithin b.both z.from × IsWithin b.both z.to

-- the box of one point alone, and the block of such boxes
abbrev pub spot : Bounds
spot = record { low = origin; high = origin }

abbrev pub nowhere : Block
nowhere = record { from = spot; to = spot; both = spot }

-- the block at this index
abbrev pub block : List Block → ℕ → Block
block B i = slice_index_or B i nowhere

-- k is an index of block i, where each has this many indices
abbrev pub IsInBlock : (size i k : ℕ) → Type 0
IsInBlock size i k = (size * i ≤ k) × (k < size * i + size)

-- the boxes of block i have the ends of each segment of the block
abbrev pub IsBounded : ℕ → List Segment → List Block → ℕ → Type 0
IsBounded size Z B i = (k : ℕ) → IsInBlock size i k → k < length Z → HasSegment (block B i) (segment Z k)

-- all boxes are within the limit, and those of the first n blocks have the ends of their segments
pub record AreBoundedBelow (size : ℕ) (Z : List Segment) (B : List Block) (n : ℕ) : Type 0 where
  pub near : (i : ℕ) → i < length B → HasNearBoxes (block B i)
  pub bounded : (i : ℕ) → i < n → IsBounded size Z B i

-- Z has the segments of K, in blocks of 16 with boxes B, and in groups of 256 with boxes G
pub record AreInBlocks (S : List Point) (K : List Pair) (Z : List Segment) (B G : List Block) : Type 0 where
  pub segments : AreSegments S K Z
  pub room : length Z ≤ 16 * length B
  pub boxes : AreBoundedBelow 16 Z B (length B)
  pub group_room : length Z ≤ 256 * length G
  pub group_boxes : AreBoundedBelow 256 Z G (length G)
