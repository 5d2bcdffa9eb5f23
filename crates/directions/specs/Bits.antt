-- For private clauses.
-- Tables with a bit for each pair of points.
use Rattle.std.specs.Prelude.{◌≡◌, ℕ, zero, suc, ◌+◌, ◌*◌, ◌/◌, ◌%◌, ◌<◌, ◌≤◌, ◌⊎◌, ◌↔◌, min, max, List, length, slice_index}
use Rattle.std.specs.List.{Contains}
use Rattle.std.specs.Int.{bit_at}
use Rattle.plane.specs.declared.coordinates.Point.{Point}
use Rattle.plane.specs.Geometry.{point, IsClear}
use Rattle.star.specs.Turn.{IsUpper}
use Rattle.directions.specs.Rounds.{IsPartOfFan}

-- the number of pairs of n points
abbrev pub count_of_pairs : ℕ → ℕ
count_of_pairs zero = 0
count_of_pairs (suc n) = count_of_pairs n + n

-- the number of the pair i-j, i < j
unfoldable pub number_of : (i j : ℕ) → ℕ
number_of i j = count_of_pairs j + i

-- bit k is set
unfoldable pub HasBit : List ℕ → ℕ → Type 0
HasBit table k = bit_at (slice_index table (k / 64)) (k % 64) ≡ 1

-- the table has a bit for each pair of n points
abbrev pub HasRoom : ℕ → List ℕ → Type 0
HasRoom n table = (k : ℕ) → k < count_of_pairs n → k / 64 < length table

-- new has the bits of old, and bit k besides
abbrev pub AddsBit : (old : List ℕ) → (k : ℕ) → (new : List ℕ) → Type 0
AddsBit old k new = (j : ℕ) → HasBit new j ↔ ((j ≡ k) ⊎ HasBit old j)

-- all bits are those of clear pairs
abbrev pub HasClearAlone : List Point → List ℕ → Type 0
HasClearAlone S table = (i j : ℕ) → i < j → j < length S → HasBit table (number_of i j) → IsClear S i j

-- the clear pair of p and q has its bit
abbrev pub HasPair : (p q : ℕ) → List ℕ → Type 0
HasPair p q table = HasBit table (number_of (min p q) (max p q))

-- all clear pairs of p and points above it, or level on its right, have their bits
abbrev pub HasClearAbove : List Point → ℕ → List ℕ → Type 0
HasClearAbove S p table = (q : ℕ) → q < length S → IsUpper (point S p) (point S q) → IsClear S p q → HasPair p q table

-- the table of the clear pairs
pub record IsClearTable (S : List Point) (table : List ℕ) : Type 0 where
  pub room : HasRoom (length S) table
  pub alone : HasClearAlone S table
  pub above : (p : ℕ) → p < length S → HasClearAbove S p table

-- the list has all points above p, in order round it
pub record IsUpperFan (S : List Point) (p : ℕ) (list : List ℕ) : Type 0 where
  pub part : IsPartOfFan S p list
  pub all : (q : ℕ) → q < length S → IsUpper (point S p) (point S q) → Contains list q

-- a table that keeps all bits and adds none but those of clear pairs
pub record IsGrown (S : List Point) (old new : List ℕ) : Type 0 where
  pub room : HasRoom (length S) new
  pub alone : HasClearAlone S new
  pub kept : (k : ℕ) → HasBit old k → HasBit new k
