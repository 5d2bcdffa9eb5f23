-- Which positions of a list of segments cross, in order. (Textbook; the order is this project's own.)
use Rattle.std.specs.Prelude.{◌≡◌, ℕ, ◌<◌, ◌≤◌, ◌⊎◌, List, length, slice_index_or}
use Rattle.std.specs.List.{All, AllPairs, Contains}
use Rattle.plane.specs.declared.coordinates.Point.{Point}
use Rattle.plane.specs.declared.segment.Pair.{Pair}
use Rattle.plane.specs.First.{ComesBefore}
use Rattle.plane.specs.Geometry.{AreCrossing}

-- e stands at position k
abbrev pub IsPairAt : List Pair → ℕ → Pair → Type 0
IsPairAt K k e = (k < length K) × (slice_index_or K k e ≡ e)

-- the segments at positions a and b cross
abbrev pub DoCrossAt : List Point → List Pair → (a b : ℕ) → Type 0
DoCrossAt S K a b = (e : Pair) × (f : Pair) × IsPairAt K a e × IsPairAt K b f × AreCrossing S e.lo e.hi f.lo f.hi

-- the segment at position a crosses that at the later position b
abbrev pub CrossesLater : List Point → List Pair → (a b : ℕ) → Type 0
CrossesLater S K a b = (a < b) × DoCrossAt S K a b

-- the list has the first pairs of numbers with R, by the first and then the second number: all of them, or as many as there is
-- room for
pub record AreFirstPairs (R : ℕ → ℕ → Type 0) (most : ℕ) (list : List (ℕ × ℕ)) : Type 0 where
  pub few : length list ≤ most
  pub each : All (λ p. R p.0 p.1) list
  pub ascending : AllPairs (λ p q. ComesBefore p.0 p.1 q.0 q.1) list
  pub whole : (i j : ℕ) → R i j
      → Contains list (i, j) ⊎ ((length list ≡ most) × All (λ p. ComesBefore p.0 p.1 i j) list)
