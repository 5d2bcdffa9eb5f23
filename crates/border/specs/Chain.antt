-- For private clauses.
-- A chain of places in the order of the points: one half of the border of the points up to a place.
use Rattle.std.specs.Prelude.{◌≡◌, ◌≢◌, ℕ, ◌+◌, ◌-◌, ◌<◌, Bool, List, length, slice_index_or, pos, ◌<ℤ◌, ◌≤ℤ◌, ◌++◌}
use Rattle.std.specs.List.{All, Contains}
use Rattle.plane.specs.declared.coordinates.Point.{Point}
use Rattle.plane.specs.Geometry.{point, area, orientation}
use Rattle.plane_laws.specs.Order.{IsBefore}
use Rattle.border.specs.Cycle.{at}
use Rattle.border.specs.Walk.{seen}

-- the point at a place, as it is seen
abbrev pub seen_at : List Point → Bool → List ℕ → ℕ → Point
seen_at S b O k = seen S b (at O k)

-- O has all points by x, then by y, as they are seen
pub record IsInOrder (S : List Point) (b : Bool) (O : List ℕ) : Type 0 where
  pub count : length O ≡ length S
  pub within : (k : ℕ) → k < length O → at O k < length S
  pub whole : (v : ℕ) → v < length S → (k : ℕ) × (k < length O) × (at O k ≡ v)
  pub rising : (j k : ℕ) → j < k → k < length O → IsBefore (seen_at S b O j) (seen_at S b O k)

-- the numbers are below n
abbrev pub ArePlaces : ℕ → List ℕ → Type 0
ArePlaces n C = (j : ℕ) → j < length C → at C j < n

-- the chain has a side, and the point at place k is right of its last one
abbrev pub TurnsRight : List Point → (O C : List ℕ) → ℕ → Type 0
TurnsRight S O C k = (1 < length C) × (orientation S (at O (at C (length C - 2))) (at O (at C (length C - 1))) (at O k) <ℤ pos 0)

-- the step from v to w leads on, has all points on its left or on its line, and none between its ends
pub record IsLower (P : ℕ → Point) (n v w : ℕ) : Type 0 where
  pub within : w < n
  pub leads : IsBefore (P v) (P w)
  pub left : (k : ℕ) → k < n → pos 0 ≤ℤ area (P v) (P w) (P k)
  pub clear : (k : ℕ) → k < n → IsBefore (P v) (P k) → IsBefore (P k) (P w) → area (P v) (P w) (P k) ≢ pos 0

-- the chain begins with the first place, and its sides are such steps among the first n points
pub record IsPart (P : ℕ → Point) (n : ℕ) (C : List ℕ) : Type 0 where
  pub some : 0 < length C
  pub places : ArePlaces n C
  pub first : at C 0 ≡ 0
  pub steps : (j : ℕ) → j + 1 < length C → IsLower P n (at C j) (at C (j + 1))

-- the chain leads up to the last of the first n places
pub record IsChain (P : ℕ → Point) (n : ℕ) (C : List ℕ) : Type 0 where
  pub part : IsPart P n C
  pub last : at C (length C - 1) + 1 ≡ n

-- the points from the chain's end to the place n are left of the line through both
pub record IsOpen (P : ℕ → Point) (n : ℕ) (C : List ℕ) : Type 0 where
  pub part : IsPart P n C
  pub opens : (t : ℕ) → at C (length C - 1) < t → t < n → pos 0 <ℤ area (P (at C (length C - 1))) (P n) (P t)

-- the list has grown by the points of the first n places of the chain
abbrev pub HasPoints : (O C : List ℕ) → ℕ → (old new : List ℕ) → Type 0
HasPoints O C n old new = (D : List ℕ) × (new ≡ old ++ D) × (length D ≡ n) × ((i : ℕ) → i < n → at D i ≡ at O (at C i))
