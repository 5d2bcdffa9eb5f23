-- For private clauses.
-- What the plain slow program of the tests tries for each direction.
use Rattle.std.specs.Prelude.{◌≢◌, ℕ, true}
use Rattle.plane.specs.Geometry.{IsInNeed}
use Rattle.star.specs.Stars.{Seen, entry, HasMark}
use Rattle.star.specs.Gaps.{IsKept}

-- the neighbour at k is kept, isn't q, and is in the need of the centre for u
abbrev pub MeetsAt : Seen → (u q k : ℕ) → Type 0
MeetsAt s u q k = IsKept s.list k × ((entry s.list k).0 ≢ q) × IsInNeed s.points s.centre u (entry s.list k).0

-- a kept neighbour other than q is in the need of the centre for u
abbrev pub IsMetWithout : Seen → (u q : ℕ) → Type 0
IsMetWithout s u q = (r : ℕ) × (r ≢ q) × HasMark s r true × IsInNeed s.points s.centre u r
