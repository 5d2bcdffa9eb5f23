-- What contracts see of a chronicle and of its shares, and what a longer history has to do with what a share had seen.
use Rattle.std.specs.Prelude.{◌≡◌, ℕ, ◌+◌, ◌<◌, ◌≤◌, Bool, true, List, [], ◌∷◌, ◌++◌}
use Rattle.std.specs.List.{AllByRecursion}
use Rattle.atomic_table.specs.Seated.{TableId}
use Rattle.index_sets.specs.Indices.{contains, HasNoRepeat, numbers_from}
use Rattle.index_sets.specs.Entries.{entries_of, LacksCaller, SparesPlace}

-- A chronicle: which it is, its last part, its number of callers, and the entries that it began with
pub record ChronicleSeen (T : Type 0) : Type 0 where
  pub table : TableId
  pub last : ℕ
  pub callers : ℕ
  pub first : List T

-- A share: of which chronicle, its caller or 0, what it has seen, which of that is its caller's, and its parts
pub record ShareSeen (T : Type 0) : Type 0 where
  pub of : ChronicleSeen T
  pub caller : ℕ
  pub seen : List T
  pub mine : List T
  pub parts : List ℕ

-- the only number of a list, or 0
abbrev pub only : List ℕ → ℕ
only [] = 0
only (c ∷ cs) = c

-- one of so many callers, from 1
abbrev pub IsCaller : (callers c : ℕ) → Type 0
IsCaller callers c = (1 ≤ c) × (c ≤ callers)

module _ {T : Type 0} where
  -- the share of all parts, at first
  abbrev pub whole_share : ChronicleSeen T → ShareSeen T
  whole_share of = record { of = of; caller = 0; seen = of.first; mine = []; parts = numbers_from 0 (of.last + 1) }

  -- the share of a caller, at first
  abbrev pub caller_share : (caller : T → ℕ) → ChronicleSeen T → ℕ → ShareSeen T
  caller_share caller of c =
      record { of = of; caller = c; seen = of.first; mine = entries_of caller c of.first; parts = [] }

module _ {T : Type 0} (caller : T → ℕ) where
  -- the entries that the chronicle began with, and then entries of its callers
  pub record IsHistory (of : ChronicleSeen T) (entries : List T) : Type 0 where
    pub later : List T
    pub is : entries ≡ of.first ++ later
    pub callers : AllByRecursion (λ (e : T). IsCaller of.callers (caller e)) later

  -- what holds of each share
  pub record IsShare (share : ShareSeen T) : Type 0 where
    pub history : IsHistory share.of share.seen
    pub mine : share.mine ≡ entries_of caller share.caller share.seen
    pub callers : share.caller ≤ share.of.callers
    pub once : HasNoRepeat share.parts

  -- The share has seen the beginning of a history. What came after touches none of its parts (each entry counts as
  -- touching the last part), and is of callers, but not of its own.
  pub record GoesOn (touches : T → ℕ → Bool) (share : ShareSeen T) (history : List T) : Type 0 where
    pub more : List T
    pub is : history ≡ share.seen ++ more
    pub spares : AllByRecursion (SparesPlace touches more) share.parts
    pub whole : contains share.parts share.of.last ≡ true → more ≡ []
    pub lacks : LacksCaller caller more share.caller
    pub callers : AllByRecursion (λ (e : T). IsCaller share.of.callers (caller e)) more
    pub alone : share.of.callers ≡ 1 → 0 < share.caller → more ≡ []
