-- The star of a centre: its neighbours in turning order, each with a mark whether it is kept.
use Rattle.std.specs.Prelude.{◌≡◌, ◌≢◌, ℕ, ◌+◌, ◌-◌, ◌<◌, ◌≤◌, Bool, true, false, if◌then◌else◌, nat_lt, List, length, insert, remove, slice_index_or, slice_set, Option, Some, None}
use Rattle.plane.specs.declared.coordinates.Point.{Point}
use Rattle.plane.specs.declared.coordinates.TheConstants.{MOST_POINTS}
use Rattle.star.specs.Turn.{IsBeforeInTurn, IsInDirection}

-- what contracts see of a star: beside its neighbours the points for which they are in order, and for how many
-- neighbours there is room
pub record Seen : Type 0 where
  pub centre : ℕ
  pub list : List (ℕ × Bool)
  pub spare : ℕ
  pub points : List Point

-- the neighbour and its mark at a position
abbrev pub entry : List (ℕ × Bool) → ℕ → ℕ × Bool
entry list k = slice_index_or list k (0, false)

-- the neighbours stand in turning order round the centre
abbrev pub AreInTurn : List Point → ℕ → List (ℕ × Bool) → Type 0
AreInTurn S c list = (i j : ℕ) → i < j → j < length list → IsBeforeInTurn S c (entry list i).0 (entry list j).0

-- what is true of every star
pub record IsOrderly (S : List Point) (c : ℕ) (list : List (ℕ × Bool)) : Type 0 where
  pub centre : c < length S
  pub within : (k : ℕ) → k < length list → (entry list k).0 < length S
  pub apart : (k : ℕ) → k < length list → (entry list k).0 ≢ c
  pub order : AreInTurn S c list
  pub few : length list ≤ MOST_POINTS

abbrev pub IsStar : Seen → Type 0
IsStar s = IsOrderly s.points s.centre s.list

-- q stands at the position k
abbrev pub StandsAt : Seen → (k q : ℕ) → Type 0
StandsAt s k q = (k < length s.list) × ((entry s.list k).0 ≡ q)

abbrev pub IsNeighbour : Seen → ℕ → Type 0
IsNeighbour s q = (k : ℕ) × StandsAt s k q

-- q is a neighbour with this mark
abbrev pub HasMark : Seen → ℕ → Bool → Type 0
HasMark s q kept = (k : ℕ) × (k < length s.list) × (entry s.list k ≡ (q, kept))

-- the position of q, or none where it isn't a neighbour
abbrev pub IsPlace : Seen → ℕ → Option ℕ → Type 0
IsPlace s q (Some k) = StandsAt s k q
IsPlace s q None = (k : ℕ) → k < length s.list → (entry s.list k).0 ≢ q

-- the position j of a cyclic list of n, counted once round at most
abbrev pub around : (n j : ℕ) → ℕ
around n j = if nat_lt j n then j else j - n

-- the neighbour after q, the list being cyclic, or none where q isn't a neighbour
abbrev pub IsNext : Seen → ℕ → Option ℕ → Type 0
IsNext s q None = ¬ IsNeighbour s q
IsNext s q (Some r) = (k : ℕ) × StandsAt s k q × (r ≡ (entry s.list (around (length s.list) (k + 1))).0)

-- r is the first kept neighbour after that at k, the one at k being the last candidate
abbrev pub IsFirstKept : Seen → (k r : ℕ) → Type 0
IsFirstKept s k r =
    (d : ℕ) × (d < length s.list) × (entry s.list (around (length s.list) (k + d + 1)) ≡ (r, true))
    × ((e : ℕ) → e < d → (entry s.list (around (length s.list) (k + e + 1))).1 ≡ false)

-- the first kept neighbour after q, or none where q isn't a neighbour or none is kept
abbrev pub IsKeptNext : Seen → ℕ → Option ℕ → Type 0
IsKeptNext s q None = (k : ℕ) → StandsAt s k q → (j : ℕ) → j < length s.list → (entry s.list j).1 ≡ false
IsKeptNext s q (Some r) = (k : ℕ) × StandsAt s k q × IsFirstKept s k r

-- q's mark alone has changed, to this one
abbrev pub Marks : (old new : Seen) → ℕ → Bool → Type 0
Marks old new q kept = (k : ℕ) × StandsAt old k q × (new ≡ record old { list = slice_set old.list k (q, kept) })

-- the centre and the points are as before
abbrev pub SamePlace : (old new : Seen) → Type 0
SamePlace old new = (new.centre ≡ old.centre) × (new.points ≡ old.points)

-- q has come in unmarked, at some position
abbrev pub Gains : (old new : Seen) → ℕ → Type 0
Gains old new q = (k : ℕ) × (k ≤ length old.list) × (new.list ≡ insert old.list k (q, false))

-- q has gone
abbrev pub Loses : (old new : Seen) → ℕ → Type 0
Loses old new q = (k : ℕ) × StandsAt old k q × (new.list ≡ remove old.list k)

-- no neighbour stands in the direction of q
abbrev pub IsFree : Seen → ℕ → Type 0
IsFree s q = (k : ℕ) → k < length s.list → ¬ IsInDirection s.points s.centre (entry s.list k).0 q
