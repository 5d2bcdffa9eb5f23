-- For private clauses.
-- A seat between two calls, and as contracts see it.
use Rattle.std.specs.Prelude.{◌≡◌, ℕ, ◌+◌, ◌-◌, ◌≤◌, true, nat_eq, if◌then◌else◌, List, [], ◌∷◌, length}
use Rattle.atomic_table.specs.Table.{Me}
use Rattle.atomic_table.specs.Seated.{TableId}
use Rattle.index_sets.specs.Indices.{HasNoRepeat, numbers_from}
use Rattle.index_sets.specs.Prefixes.{IsPrefix}
use Rattle.index_sets.specs.Entries.{entries_of}
use Rattle.chronicle.specs.declared.table.View.{View}
use Rattle.chronicle.specs.declared.table.About.{About}
use Rattle.chronicle.specs.History.{ChronicleSeen, ShareSeen, only}
use Rattle.chronicle.specs.Kept.{first_view, opened, AreCallersFrom}

-- a list with this number, and none for 0
abbrev pub numbered : ℕ → List ℕ
numbered c = if nat_eq c 0 then [] else c ∷ []

module _ {T : Type 0} where
  -- the first seat of a table, once it knows these first entries, with so many callers given away
  pub record IsDealing (a : About) (entries : List T) (given : ℕ) (m : Me (Unit {0}) (View T)) : Type 0 where
    pub hands : m.1 ≡ []
    pub view : m.0 ≡ record (opened entries (first_view a)) { callers = numbers_from (1 + given) (a.callers - given) }

  -- the name of a chronicle
  abbrev pub named : TableId → About → List T → ChronicleSeen T
  named id a entries = record { table = id; last = a.last; callers = a.callers; first = entries }

module _ {T : Type 0} (caller : T → ℕ) where
  -- what contracts see of a seat of this table with this view
  abbrev pub share_of : TableId → View T → ShareSeen T
  share_of id v = record {
    of = record { table = id; last = v.last; callers = v.most; first = v.first };
    caller = only v.callers;
    seen = v.seen;
    mine = entries_of caller (only v.callers) v.seen;
    parts = v.parts;
  }

  -- between two calls
  pub record IsSettled (m : Me (Unit {0}) (View T)) : Type 0 where
    pub hands : m.1 ≡ []
    pub sides : m.0.sides ≡ []
    pub live : m.0.live ≡ true
    pub callers : m.0.callers ≡ numbered (only m.0.callers)
    pub most : only m.0.callers ≤ m.0.most
    pub once : HasNoRepeat m.0.parts
    pub first : IsPrefix m.0.first m.0.seen
    pub later : AreCallersFrom caller m.0.most (length m.0.first) m.0.seen
