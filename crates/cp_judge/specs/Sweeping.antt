-- For private clauses.
-- Crossings of segments that are compared in the order of their left ends.
use Rattle.std.specs.Prelude.{ℕ, ◌<◌, ◌≤◌, List, length, ◌≤ℤ◌}
use Rattle.std.specs.Int.{int_min, int_max}
use Rattle.plane.specs.declared.coordinates.Point.{Point}
use Rattle.plane.specs.declared.segment.Pair.{Pair}
use Rattle.crossings.specs.declared.segments.Segment.{Segment}
use Rattle.crossings.specs.Crossings.{DoCrossAt}
use Rattle.crossings.specs.Segments.{segment}

-- the segments stand by their left ends
abbrev pub AreByLeft : List Segment → Type 0
AreByLeft Z = (i j : ℕ) → i ≤ j → j < length Z → (segment Z i).from.x ≤ℤ (segment Z j).from.x

-- no end of z is above an end of w
abbrev pub IsBelow : (z w : Segment) → Type 0
IsBelow z w = int_max z.from.y z.to.y ≤ℤ int_min w.from.y w.to.y

-- n is at most the places of z and w where the pairs there cross
abbrev pub IsUpToCrossing : List Point → List Pair → ℕ → (z w : Segment) → Type 0
IsUpToCrossing S K n z w = DoCrossAt S K z.place w.place → (n ≤ z.place) × (n ≤ w.place)

-- no pair before position n crosses a later one
abbrev pub CrossNoneBefore : List Point → List Pair → ℕ → Type 0
CrossNoneBefore S K n = (k m : ℕ) → k < n → k < m → m < length K → ¬ DoCrossAt S K k m
