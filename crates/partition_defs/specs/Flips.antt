-- The flip of a pair a-b of a set T to c-d, and what it does to T. (Textbook.)
use Rattle.std.specs.Prelude.{ℕ, ◌<◌, ◌⊎◌, ◌↔◌, List, length, pos, ◌<ℤ◌}
use Rattle.plane.specs.declared.coordinates.Point.{Point}
use Rattle.plane.specs.declared.segment.Pair.{Pair}
use Rattle.plane.specs.Geometry.{orientation, IsClear, AreCrossing}
use Rattle.plane_laws.specs.Quads.{AreEnds}
use Rattle.partition_defs.specs.Partition.{Joins}
use Rattle.partition_defs.specs.Triangulation.{IsApex}

-- a-b is in T with the apex c on its left and the apex d on its right, and a and b are strictly on the two sides of the
-- line from c to d: the quadrilateral a d b c is strictly convex
pub record IsFlippable (S : List Point) (T : List Pair) (a b c d : ℕ) : Type 0 where
  pub joined : Joins T a b
  pub left : IsApex S T a b c
  pub right : IsApex S T b a d
  pub first_side : orientation S c d a <ℤ pos 0
  pub second_side : pos 0 <ℤ orientation S c d b

-- c-d is clear, isn't in T, and crosses a-b and no other pair of T
pub record IsFlip (S : List Point) (T : List Pair) (a b c d : ℕ) : Type 0 where
  pub c_in : c < length S
  pub d_in : d < length S
  pub joined : Joins T a b
  pub fresh : ¬ Joins T c d
  pub clear : IsClear S c d
  pub crosses : AreCrossing S c d a b
  pub alone : (i j : ℕ) → Joins T i j → AreCrossing S c d i j → AreEnds a b i j

-- U has the pairs of T, with c-d for a-b
abbrev pub IsFlipped : (T U : List Pair) (a b c d : ℕ) → Type 0
IsFlipped T U a b c d = (i j : ℕ) → Joins U i j ↔ ((Joins T i j × ¬ AreEnds a b i j) ⊎ AreEnds c d i j)
