-- For private clauses.
-- How one more segment comes into the stars.
use Rattle.std.specs.Prelude.{◌≡◌, ◌≢◌, ℕ, ◌↔◌, ◌⊎◌, List, length, true}
use Rattle.plane.specs.declared.segment.Pair.{Pair}
use Rattle.star.specs.Stars.{Seen, IsStar, IsNeighbour, HasMark, SamePlace}
use Rattle.subdivision.specs.Layout.{star_at}

-- w has become a kept neighbour
pub record GainsKept (old new : Seen) (w : ℕ) : Type 0 where
  pub place : SamePlace old new
  pub star : IsStar new
  pub neighbours : (u : ℕ) → IsNeighbour new u ↔ (IsNeighbour old u ⊎ (u ≡ w))
  pub marks : (u : ℕ) → HasMark new u true ↔ (HasMark old u true ⊎ (u ≡ w))

-- the ends of the segment have become kept neighbours of each other, and the other stars are as before
pub record GainsKeptEnds (old new : List Seen) (e : Pair) : Type 0 where
  pub count : length new ≡ length old
  pub lower : GainsKept (star_at old e.lo) (star_at new e.lo) e.hi
  pub upper : GainsKept (star_at old e.hi) (star_at new e.hi) e.lo
  pub others : (v : ℕ) → v ≢ e.lo → v ≢ e.hi → star_at new v ≡ star_at old v
