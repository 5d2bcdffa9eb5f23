-- For private clauses.
-- The list of the clear pairs as it grows.
use Rattle.std.specs.Prelude.{ℕ, ◌<◌, List, length}
use Rattle.std.specs.List.{AllPairs, Contains}
use Rattle.plane.specs.declared.coordinates.Point.{Point}
use Rattle.plane.specs.declared.segment.Pair.{Pair}
use Rattle.plane.specs.First.{ComesBefore}
use Rattle.plane.specs.Geometry.{IsClear}

-- the list has all clear pairs before a, b, ascending
pub record AreClearBefore (S : List Point) (a b : ℕ) (list : List Pair) : Type 0 where
  pub ascending : AllPairs (λ e f. ComesBefore e.lo e.hi f.lo f.hi) list
  pub clear : (e : Pair) → Contains list e → (e.hi < length S) × IsClear S e.lo e.hi × ComesBefore e.lo e.hi a b
  pub all : (e : Pair) → e.hi < length S → IsClear S e.lo e.hi → ComesBefore e.lo e.hi a b → Contains list e
