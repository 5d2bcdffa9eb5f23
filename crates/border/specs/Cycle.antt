-- The border of a point set as a cycle. (Textbook.)
use Rattle.std.specs.Prelude.{◌≡◌, ◌≢◌, ℕ, ◌+◌, ◌<◌, ◌⊎◌, ◌↔◌, if◌then◌else◌, nat_lt, List, length, slice_index_or}
use Rattle.std.specs.List.{AllPairs, Contains}
use Rattle.plane.specs.declared.coordinates.Point.{Point}
use Rattle.plane.specs.declared.coordinates.Turn.TheVariants.{Left}
use Rattle.plane.specs.Geometry.{point, IsBorderPair, IsInner}
use Rattle.plane.specs.Hull.{IsBorderStep}
use Rattle.plane_laws.specs.Order.{IsBefore}

abbrev pub at : List ℕ → ℕ → ℕ
at B i = slice_index_or B i 0

-- the position after i in a cycle of n
abbrev pub after : (n i : ℕ) → ℕ
after n i = if nat_lt (i + 1) n then i + 1 else 0

-- v and w stand next to each other in the cycle
abbrev pub AreNext : List ℕ → (v w : ℕ) → Type 0
AreNext B v w = (i : ℕ) × (i < length B) × (((at B i ≡ v) × (at B (after (length B) i) ≡ w)) ⊎ ((at B i ≡ w) × (at B (after (length B) i) ≡ v)))

-- the point is least by x, then by y
abbrev pub IsLeastPoint : List Point → ℕ → Type 0
IsLeastPoint S v = (v < length S) × ((k : ℕ) → k < length S → k ≢ v → IsBefore (point S v) (point S k))

-- The border points, each once, counterclockwise from the least one: each is followed by the next one on the border.
pub record IsBorderCycle (S : List Point) (B : List ℕ) : Type 0 where
  pub first : IsLeastPoint S (at B 0)
  pub distinct : AllPairs (λ v w. v ≢ w) B
  pub steps : (i : ℕ) → i < length B → IsBorderStep S Left (at B i) (at B (after (length B) i))
  pub members : (v : ℕ) → v < length S → Contains B v ↔ ¬ IsInner S v
  pub pairs : (v w : ℕ) → v < length S → w < length S → v ≢ w → AreNext B v w ↔ IsBorderPair S v w
