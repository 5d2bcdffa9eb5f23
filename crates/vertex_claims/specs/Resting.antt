-- For private clauses.
-- A seat between two calls, as contracts see it, and the first seat while the table is made.
use Rattle.std.specs.Prelude.{◌≡◌, ℕ, ◌+◌, ◌-◌, ◌<◌, ◌≤◌, true, [], ◌∷◌, Option, Some, None}
use Rattle.atomic_table.specs.Table.{Me}
use Rattle.atomic_table.specs.Seated.{TableId}
use Rattle.index_sets.specs.Indices.{contains, HasNoRepeat, numbers_from}
use Rattle.vertex_claims.specs.declared.table.View.{View}
use Rattle.vertex_claims.specs.declared.table.About.{About}
use Rattle.vertex_claims.specs.Holding.{ClaimsSeen, HolderSeen}
use Rattle.vertex_claims.specs.Kept.{first_view}

module _ {R : Type 0} where
  -- the name of claims
  abbrev pub named : TableId → About R → ClaimsSeen R
  named id a = record { table = id; places = id.words; callers = a.callers; root = a.root.value }

  -- what contracts see of a seat of this table with this view
  abbrev pub holder_of : TableId → R → ℕ → View R → HolderSeen R
  holder_of id root number v = record { of = record { table = id; places = id.words; callers = v.callers; root = root }; number = number; places = v.places; wins = v.wins; misses = v.misses }

module _ {R C : Type 0} where
  -- between two calls
  pub record IsResting (id : TableId) (root : R) (number : ℕ) (m : Me (Option C) (View R)) : Type 0 where
    pub hands : m.1 ≡ []
    pub idle : m.0.busy ≡ None
    pub numbers : m.0.numbers ≡ number ∷ []
    pub least : 1 ≤ number
    pub most : number ≤ m.0.callers
    pub root_is : m.0.root ≡ Some root
    pub once : HasNoRepeat m.0.places
    pub within : (i : ℕ) → contains m.0.places i ≡ true → i < id.words

  -- the first seat, with so many places still to be laid
  abbrev pub IsLaying : About R → ℕ → Me (Option C) (View R) → Type 0
  IsLaying a left m = m ≡ (record (first_view a) { places = numbers_from 0 left }, [])

  -- the first seat, with the numbers from this one on still to be given away
  abbrev pub IsDealing : About R → ℕ → Me (Option C) (View R) → Type 0
  IsDealing a next m = m ≡ (record (first_view a) { places = []; numbers = numbers_from next (a.callers + 1 - next) }, [])
