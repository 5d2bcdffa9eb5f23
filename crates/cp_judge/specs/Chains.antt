-- For private clauses.
-- Chains of points on the border: from the first to the last point in the order of the sweep, with all points on one side.
use Rattle.std.specs.Prelude.{◌≡◌, ℕ, ◌+◌, ◌<◌, ◌⊎◌, Bool, IsTrue, List, length, slice_index, ℤ, pos, neg_ℤ, ◌<ℤ◌, ◌≤ℤ◌}
use Rattle.plane.specs.declared.coordinates.Point.{Point}
use Rattle.plane.specs.declared.coordinates.Turn.{Turn}
use Rattle.plane.specs.declared.coordinates.Turn.TheVariants.{Left, Straight, Right}
use Rattle.plane.specs.declared.segment.Pair.{Pair}
use Rattle.plane.specs.Geometry.{orientation, IsInner}
use Rattle.plane.specs.Hull.{IsBorderStep}
use Rattle.partition_defs.specs.Partition.{Joins}
use Rattle.partition_defs.specs.Sweep.{IsSweptBefore}
use Rattle.cp_judge.specs.Searching.{mark}

-- an orientation, seen so that what is on this side is positive
abbrev pub sided : Turn → ℤ → ℤ
sided Left z = z
sided Straight z = z
sided Right z = neg_ℤ z

-- O has the indices of all points of S, and no other number
pub record HasIndices (S : List Point) (O : List ℕ) : Type 0 where
  pub count : length O ≡ length S
  pub within : (k : ℕ) → k < length O → slice_index O k < length S
  pub whole : (v : ℕ) → v < length S → (k : ℕ) × (k < length O) × (slice_index O k ≡ v)

-- the first n points of O stand in the order of the sweep
abbrev pub IsRising : List Point → List ℕ → ℕ → Type 0
IsRising S O n = (j k : ℕ) → j < k → k < n → IsSweptBefore S (slice_index O j) (slice_index O k)

-- O has the points of S, each once, in the order of the sweep
pub record IsOrder (S : List Point) (O : List ℕ) : Type 0 where
  pub count : length O ≡ length S
  pub within : (k : ℕ) → k < length O → slice_index O k < length S
  pub whole : (v : ℕ) → v < length S → (k : ℕ) × (k < length O) × (slice_index O k ≡ v)
  pub rising : (j k : ℕ) → j < k → k < length O → IsSweptBefore S (slice_index O j) (slice_index O k)

-- the point at position i of the chain C, whose numbers are positions in O
abbrev pub stop : List ℕ → List ℕ → ℕ → ℕ
stop O C i = slice_index O (slice_index C i)

-- each point between two neighbours of the chain is strictly on this side of the line through them
abbrev pub IsInside : List Point → List ℕ → List ℕ → Turn → ℕ → Type 0
IsInside S O C side i = (k : ℕ) → slice_index C i < k → k < slice_index C (i + 1) → pos 0 <ℤ sided side (orientation S (stop O C i) (stop O C (i + 1)) (slice_index O k))

-- a chain with all points on this side
pub record IsChain (S : List Point) (O C : List ℕ) (side : Turn) : Type 0 where
  pub several : 1 < length C
  pub first : slice_index C 0 ≡ 0
  pub last : (i : ℕ) → i + 1 ≡ length C → slice_index C i + 1 ≡ length O
  pub rising : (i : ℕ) → i + 1 < length C → slice_index C i < slice_index C (i + 1)
  pub bent : (i : ℕ) → i + 1 + 1 < length C → pos 0 ≤ℤ sided side (orientation S (stop O C i) (stop O C (i + 1)) (stop O C (i + 1 + 1)))
  pub inside : (i : ℕ) → i + 1 < length C → IsInside S O C side i

-- each pair of the chain is in K
abbrev pub HasPairs : List ℕ → List ℕ → List Pair → Type 0
HasPairs O C K = (i : ℕ) → i + 1 < length C → Joins K (stop O C i) (stop O C (i + 1))

-- the marks are of points on the border alone
abbrev pub AreOnBorder : List Point → List Bool → Type 0
AreOnBorder S M = (v : ℕ) → v < length S → IsTrue (mark M v) → ¬ IsInner S v

-- what is marked in N is marked in M or is a point of the chain
abbrev pub MarksStops : List ℕ → List ℕ → (M N : List Bool) → Type 0
MarksStops O C M N = (v : ℕ) → IsTrue (mark N v) → IsTrue (mark M v) ⊎ ((i : ℕ) × (i < length C) × (stop O C i ≡ v))

-- each step of the border on this side that goes forward in the order of the sweep is in K
abbrev pub HasSide : List Point → List Pair → Turn → Type 0
HasSide S K side = (v w : ℕ) → v < length S → IsSweptBefore S v w → IsBorderStep S side v w → Joins K v w
