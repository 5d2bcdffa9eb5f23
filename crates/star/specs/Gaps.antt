-- The kept neighbours round a centre, the gaps between them in turning order, and the needs of the centre that they meet.
use Rattle.std.specs.Prelude.{◌≡◌, ◌≢◌, ℕ, ◌<◌, ◌⊎◌, Bool, true, List, length}
use Rattle.plane.specs.declared.coordinates.Point.{Point}
use Rattle.plane.specs.Geometry.{IsInNeed}
use Rattle.star.specs.Stars.{Seen, entry, HasMark}

-- a kept neighbour stands at the position k
abbrev pub IsKept : List (ℕ × Bool) → ℕ → Type 0
IsKept list k = (k < length list) × ((entry list k).1 ≡ true)

-- going round from the position i, j comes sooner than m, and the three differ
abbrev pub ComesSooner : (i j m : ℕ) → Type 0
ComesSooner i j m = ((i < j) × (j < m)) ⊎ (((j < m) × (m < i)) ⊎ ((m < i) × (i < j)))

-- j is the first kept position after i, going round; i itself only where no other is kept
pub record IsKeptAfter (list : List (ℕ × Bool)) (i j : ℕ) : Type 0 where
  pub kept : IsKept list j
  pub first : (m : ℕ) → IsKept list m → m ≢ i → m ≢ j → ComesSooner i j m

-- j is the last kept position before i, going round; i itself only where no other is kept
pub record IsKeptBefore (list : List (ℕ × Bool)) (i j : ℕ) : Type 0 where
  pub kept : IsKept list j
  pub last : (m : ℕ) → IsKept list m → m ≢ i → m ≢ j → ComesSooner j i m

-- the gap from the direction of a to that of b, counterclockwise, is more than straight: a whole turn where they are one
abbrev pub IsWide : List Point → (c a b : ℕ) → Type 0
IsWide S c a b = ¬ IsInNeed S c a b

-- the kept neighbours meet all needs of the centre
abbrev pub MeetsAll : List Point → ℕ → List (ℕ × Bool) → Type 0
MeetsAll S c list = (u : ℕ) → u < length S → u ≢ c → (k : ℕ) × IsKept list k × IsInNeed S c u (entry list k).0

-- some need of the centre isn't met by the kept neighbours
abbrev pub MissesSome : List Point → ℕ → List (ℕ × Bool) → Type 0
MissesSome S c list = (u : ℕ) × (u < length S) × (u ≢ c) × ((k : ℕ) → IsKept list k → ¬ IsInNeed S c u (entry list k).0)

-- some neighbour is kept, and no gap between one and the next is more than straight
abbrev pub HasNoWideGap : List Point → ℕ → List (ℕ × Bool) → Type 0
HasNoWideGap S c list =
    ((k : ℕ) × IsKept list k)
    × ((i j : ℕ) → IsKept list i → IsKeptAfter list i j → IsInNeed S c (entry list i).0 (entry list j).0)

-- no neighbour is kept, or the gap from some kept one to the next is more than straight
abbrev pub HasWideGap : List Point → ℕ → List (ℕ × Bool) → Type 0
HasWideGap S c list =
    ((k : ℕ) → ¬ IsKept list k)
    ⊎ ((i : ℕ) × (j : ℕ) × IsKept list i × IsKeptAfter list i j × IsWide S c (entry list i).0 (entry list j).0)

-- the kept neighbours other than q meet all needs of the centre
abbrev pub MeetsWithout : Seen → ℕ → Type 0
MeetsWithout s q =
    (u : ℕ) → u < length s.points → u ≢ s.centre → (r : ℕ) × (r ≢ q) × HasMark s r true × IsInNeed s.points s.centre u r

-- some need of the centre isn't met by the kept neighbours other than q
abbrev pub MissesWithout : Seen → ℕ → Type 0
MissesWithout s q =
    (u : ℕ) × (u < length s.points) × (u ≢ s.centre)
    × ((r : ℕ) → HasMark s r true → r ≢ q → ¬ IsInNeed s.points s.centre u r)
