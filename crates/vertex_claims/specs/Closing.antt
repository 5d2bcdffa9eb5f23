-- For private clauses.
-- What the closing of claims knows in its middle.
use Rattle.std.specs.Prelude.{◌≡◌, ℕ, ◌+◌, ◌<◌, [], length, true, List, Option, Some}
use mathlib.Core.Option.{some}
use lib.ListN.{get_elem?}
use Rattle.atomic_table.specs.Seated.{TableId}
use Rattle.atomic_table.specs.declared.shared.Seat.{Seat}
use Rattle.index_sets.specs.Indices.{contains}
use Rattle.vertex_claims.specs.declared.table.View.{View}
use Rattle.vertex_claims.specs.Holding.{HolderSeen}

module _ {R : Type 0} where
  -- the holder is of this table, and holds nothing
  abbrev pub IsIdleAt : TableId → HolderSeen R → Type 0
  IsIdleAt id h = (h.of.table ≡ id) × (h.places ≡ [])

  -- the view has so many numbers, and no place
  pub record HasAll (v : View R) (n : ℕ) : Type 0 where
    pub count : length v.numbers ≡ n
    pub bare : v.places ≡ []
    pub some_number : (m : ℕ) × (contains v.numbers m ≡ true)

  -- a seat of the table with all numbers but those of so many seats
  pub record Gathers {C : Type 0} (id : TableId) (s : Seat (Option C) (View R)) (left all : ℕ) : Type 0 where
    pub table : s.table_id ≡ id
    pub hands : s.me.1 ≡ []
    pub count : length s.me.0.numbers + left ≡ all
    pub bare : s.me.0.places ≡ []
    pub some_number : (m : ℕ) × (contains s.me.0.numbers m ≡ true)

-- the first n cells are out, in order
pub record IsOut {C : Type 0} (homes : List (Option C)) (cells : List C) (n : ℕ) : Type 0 where
  pub count : length cells ≡ n
  pub each : (k : ℕ) (c : C) → k < n → get_elem? homes k ≡ some (Some c) → get_elem? cells k ≡ some c
