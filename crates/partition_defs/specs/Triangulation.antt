-- Triangulations of a point set, over membership of segments. (Textbook.)
use Rattle.std.specs.Prelude.{◌≡◌, ◌≢◌, ℕ, ◌<◌, ◌+◌, ◌*◌, ◌↔◌, List, length, pos, ◌<ℤ◌}
use Rattle.std.specs.List.{AllPairs}
use Rattle.plane.specs.declared.coordinates.Point.{Point}
use Rattle.plane.specs.declared.segment.Pair.{Pair}
use Rattle.plane.specs.Geometry.{orientation, IsBorderPair, IsEmptyTriangle}
use Rattle.partition_defs.specs.Partition.{Joins, AreWithin, AreClear, ArePlane, HasBorder}

-- r is the apex of p to q: with them it spans an empty triangle of the set, on the left
pub record IsApex (S : List Point) (T : List Pair) (p q r : ℕ) : Type 0 where
  pub within : r < length S
  pub first : Joins T p r
  pub second : Joins T q r
  pub left : pos 0 <ℤ orientation S p q r
  pub empty : IsEmptyTriangle S p q r

-- some point is strictly left of the line from p to q
abbrev pub HasLeft : List Point → (p q : ℕ) → Type 0
HasLeft S p q = (s : ℕ) × (s < length S) × (pos 0 <ℤ orientation S p q s)

-- a triangulation
pub record IsTriangulation (S : List Point) (T : List Pair) : Type 0 where
  pub within : AreWithin S T
  pub clear : AreClear S T
  pub plane : ArePlane S T
  pub border : HasBorder S T
  pub met : (p : ℕ) → p < length S → (q : ℕ) × (q < length S) × Joins T p q
  pub apex : (p q : ℕ) → Joins T p q → HasLeft S p q → (r : ℕ) × IsApex S T p q r

-- no segment stands twice
abbrev pub AreDistinct : List Pair → Type 0
AreDistinct K = AllPairs (λ e f. e ≢ f) K

-- a list of exactly the border pairs, each once
pub record IsBorderList (S : List Point) (B : List Pair) : Type 0 where
  pub within : AreWithin S B
  pub distinct : AreDistinct B
  pub exact : (i j : ℕ) → i < j → j < length S → Joins B i j ↔ IsBorderPair S i j

-- as many segments as a triangulation has: three times the points, less three, less the border pairs
abbrev pub HasTriangulationCount : List Point → List Pair → Type 0
HasTriangulationCount S T = (B : List Pair) → IsBorderList S B → length T + length B + 3 ≡ 3 * length S
