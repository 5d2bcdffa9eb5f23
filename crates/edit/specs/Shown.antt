-- For private clauses, and for that of `opens_without`.
-- What one star shows of a neighbour.
use Rattle.std.specs.Prelude.{ℕ, Bool, Option, Some, None, List}
use Rattle.plane.specs.declared.coordinates.Point.{Point}
use Rattle.plane.specs.Geometry.{IsInner}
use Rattle.star.specs.Stars.{Seen, IsNeighbour, HasMark}
use Rattle.star.specs.Gaps.{MeetsAll}
use Rattle.journal_defs.specs.Table.{ShowsApex}

-- the mark of a neighbour, or none
abbrev pub IsMarkOf : Seen → ℕ → Option Bool → Type 0
IsMarkOf s q None = ¬ IsNeighbour s q
IsMarkOf s q (Some kept) = HasMark s q kept

-- the apex that the star of p shows for its pair with q, or none
abbrev pub IsShownApex : List Point → Seen → (p q : ℕ) → Option ℕ → Type 0
IsShownApex S s p q None = (r : ℕ) → ¬ ShowsApex S s p q r
IsShownApex S s p q (Some r) = ShowsApex S s p q r

-- where the centre is an inner point its kept neighbours meet all its needs
abbrev pub IsMetInside : Seen → Type 0
IsMetInside s = IsInner s.points s.centre → MeetsAll s.points s.centre s.list
