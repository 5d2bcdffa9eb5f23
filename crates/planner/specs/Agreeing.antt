-- For private clauses.
-- What agreement asks of one star of a region.
use Rattle.std.specs.Prelude.{◌≡◌, ℕ, ◌<◌, Bool, true, List, length, Some}
use Rattle.plane.specs.declared.coordinates.Point.{Point}
use Rattle.plane.specs.Geometry.{IsInner}
use Rattle.partition_defs.specs.Triangulation.{HasLeft}
use Rattle.star.specs.Stars.{Seen, HasMark, IsNext, entry}
use Rattle.star.specs.Gaps.{MeetsAll}
use Rattle.edit.specs.declared.look.Look.{Look}
use Rattle.plan_defs.specs.Plans.{has_look, star_in}
use Rattle.planner.specs.Region.{sights}

-- the neighbour after q in one star is before the centre of the one in the other
abbrev pub HasCorner : (star other : Seen) → Type 0
HasCorner star other = (r : ℕ) × IsNext star other.centre (Some r) × IsNext other r (Some star.centre)

-- on the left of the two centres, where there are points, the stars have the same corner
abbrev pub IsSide : List Point → (star other : Seen) → Type 0
IsSide S star other = HasLeft S star.centre other.centre → HasCorner star other

-- the star of the neighbour, where it was looked at, has the centre with this mark, and the same corner
abbrev pub AgreesWith : List Point → List Look → Seen → ℕ × Bool → Type 0
AgreesWith S R s x =
    has_look (sights R) x.0 ≡ true → HasMark (star_in S (sights R) x.0) s.centre x.1 × IsSide S s (star_in S (sights R) x.0)

-- the star's kept neighbours meet the needs of an inner centre
abbrev pub MeetsInside : List Point → Seen → Type 0
MeetsInside S s = IsInner S s.centre → MeetsAll S s.centre s.list

-- the star agrees with those of its neighbours
pub record AgreesAt (S : List Point) (R : List Look) (s : Seen) : Type 0 where
  pub needs : MeetsInside S s
  pub around : (k : ℕ) → k < length s.list → AgreesWith S R s (entry s.list k)
