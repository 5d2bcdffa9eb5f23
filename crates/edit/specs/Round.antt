-- For private clauses.
-- The stars of all points, as the tests make them.
use Rattle.std.specs.Prelude.{◌≡◌, ℕ, ◌<◌, List, [], length, slice_index_or}
use Rattle.plane.specs.declared.coordinates.Point.{Point}
use Rattle.star.specs.Stars.{Seen, IsStar}
use Rattle.journal_defs.specs.Table.{IsAt}

pub record Rounded : Type 0 where
  pub points : List Point
  pub stars : List Seen

-- a star without neighbours
abbrev pub bare : Seen
bare = record { centre = 0; list = []; spare = 0; points = [] }

-- a star for the points with this centre
abbrev pub IsPlaced : List Point → Seen → ℕ → Type 0
IsPlaced S s v = IsAt S s v × IsStar s

-- each star is for the points and has its position as centre
abbrev pub AreRound : List Point → List Seen → Type 0
AreRound S stars = (v : ℕ) → v < length stars → IsPlaced S (slice_index_or stars v bare) v

-- they are the stars of all these points
abbrev pub IsRoundFor : List Point → Rounded → Type 0
IsRoundFor S r = (r.points ≡ S) × (length r.stars ≡ length S) × AreRound S r.stars
