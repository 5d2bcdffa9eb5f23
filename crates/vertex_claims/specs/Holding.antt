-- What contracts see of claims and of a holder.
use Rattle.std.specs.Prelude.{◌≡◌, ◌≢◌, ℕ, ◌<◌, ◌≤◌, true, List, [], Some, slice_get}
use Rattle.atomic_table.specs.Seated.{TableId}
use Rattle.index_sets.specs.Indices.{contains, HasNoRepeat}

-- Claims: which they are, how many places and holders they have, and their root
pub record ClaimsSeen (R : Type 0) : Type 0 where
  pub table : TableId
  pub places : ℕ
  pub callers : ℕ
  pub root : R

-- A holder: of which claims, its number, the places that it holds, the places of the tries that it won, and of those
-- that it lost, each with the number that it found there
pub record HolderSeen (R : Type 0) : Type 0 where
  pub of : ClaimsSeen R
  pub number : ℕ
  pub places : List ℕ
  pub wins : List ℕ
  pub misses : List (ℕ × ℕ)

module _ {R : Type 0} where
  -- a holder at first
  abbrev pub new_holder : ClaimsSeen R → (number : ℕ) → HolderSeen R
  new_holder of number = record { of = of; number = number; places = []; wins = []; misses = [] }

  -- it is a holder of these claims, and holds nothing
  abbrev pub IsIdle : ClaimsSeen R → HolderSeen R → Type 0
  IsIdle of h = (h.of ≡ of) × (h.places ≡ [])

  -- what holds of each holder
  pub record IsHolder (h : HolderSeen R) : Type 0 where
    pub least : 1 ≤ h.number
    pub most : h.number ≤ h.of.callers
    pub once : HasNoRepeat h.places
    pub within : (place : ℕ) → contains h.places place ≡ true → place < h.of.places

  -- the number of another holder of the same claims
  pub record IsAnother (h : HolderSeen R) (number : ℕ) : Type 0 where
    pub least : 1 ≤ number
    pub most : number ≤ h.of.callers
    pub other : number ≢ h.number

-- each cell meets the fact of its place
abbrev pub AreFitting : {R C : Type 0} → (fits : R → ℕ → C → Type 0) → (root : R) → (cells : List C) → Type 0
AreFitting {R} {C} fits root cells = (place : ℕ) (cell : C) → slice_get cells place ≡ Some cell → fits root place cell
