-- Stars that agree: what the stars of one state have in common, told of stars that may be of several.
use Rattle.std.specs.Prelude.{◌≡◌, ◌≢◌, ℕ, ◌<◌, Bool, true, List, length, Some}
use Rattle.plane.specs.declared.coordinates.Point.{Point}
use Rattle.plane.specs.Geometry.{IsInner, IsInNeed}
use Rattle.partition_defs.specs.Triangulation.{HasLeft}
use Rattle.star.specs.Stars.{Seen, IsStar, IsNeighbour, HasMark, IsNext}

-- The stars at the vertices of V agree. Where one has another's centre as a neighbour, both have each other, with the same
-- mark; the kept neighbours of each inner centre meet its needs; and for each directed pair p to q between two of them that
-- has a point strictly left, the neighbour after q at p and the neighbour before p at q are one point.
pub record AreAgreeing (S : List Point) (at : ℕ → Seen) (V : ℕ → Type 0) : Type 0 where
  pub stars : (v : ℕ) → V v → IsStar (at v) × ((at v).centre ≡ v) × ((at v).points ≡ S)
  pub joined : (v w : ℕ) → V v → V w → IsNeighbour (at v) w → IsNeighbour (at w) v
  pub marked : (v w : ℕ) (b : Bool) → V v → V w → HasMark (at v) w b → HasMark (at w) v b
  pub needs : (v : ℕ) → V v → IsInner S v → (x : ℕ) → x < length S → x ≢ v
      → (r : ℕ) × HasMark (at v) r true × IsInNeed S v x r
  pub sides : (p q : ℕ) → V p → V q → IsNeighbour (at p) q → HasLeft S p q
      → (r : ℕ) × IsNext (at p) q (Some r) × IsNext (at q) r (Some p)
