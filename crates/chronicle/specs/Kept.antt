-- For private clauses.
-- The rule of the history's table, and what each step tells.
use Rattle.std.specs.Prelude.{◌≡◌, ◌≢◌, ℕ, ◌+◌, ◌≤◌, Bool, true, false, List, [], ◌∷◌, ◌++◌, length, slice_index, Option, Some}
use mathlib.Core.Option.{some}
use lib.ListN.{get_elem?}
use Rattle.atomic_table.specs.Table.{State, Me, Step}
use Rattle.index_sets.specs.Indices.{contains, all_but, HasNoRepeat, numbers_from}
use Rattle.index_sets.specs.Owners.{one_of, rest_of}
use Rattle.index_sets.specs.Prefixes.{IsPrefix, longer}
use Rattle.chronicle.specs.declared.table.View.{View}
use Rattle.chronicle.specs.declared.table.Side.{Side}
use Rattle.chronicle.specs.declared.table.About.{About}
use Rattle.chronicle.specs.History.{IsCaller}

module _ {T : Type 0} where
  abbrev pub first_view : About → View T
  first_view a = record { boots = true; size = a.size; live = false; last = a.last; most = a.callers; first = []; seen = []; parts = []; callers = []; sides = [] }

  -- the first seat, once it knows the first entries: all parts are its own, and all callers are still to give
  abbrev pub opened : List T → View T → View T
  opened entries v = record { boots = false; size = 0; live = true; last = v.last; most = v.most; first = entries; seen = entries; parts = numbers_from 0 (v.last + 1); callers = numbers_from 1 v.most; sides = [] }

  abbrev pub spent : View T
  spent = record { boots = false; size = 0; live = false; last = 0; most = 0; first = []; seen = []; parts = []; callers = []; sides = [] }

  -- a view cut in two: what stays, and what goes to a new seat
  abbrev pub keeping : View T → (parts callers : List ℕ) → View T
  keeping v parts callers = record v { parts = parts; callers = callers }

  abbrev pub going : View T → (parts callers : List ℕ) → View T
  going v parts callers = record { boots = false; size = 0; live = true; last = v.last; most = v.most; first = v.first; seen = v.seen; parts = parts; callers = callers; sides = [] }

  abbrev pub without_part : ℕ → View T → View T
  without_part p v = keeping v (all_but v.parts p) v.callers

  abbrev pub with_part : ℕ → View T → View T
  with_part p v = going v (p ∷ []) []

  abbrev pub without_caller : View T → View T
  without_caller v = keeping v v.parts (rest_of v.callers)

  abbrev pub with_caller : View T → View T
  with_caller v = going v [] (one_of v.callers)

  -- two views made one, which still tells its sides apart
  abbrev pub side_of : View T → Side T
  side_of v = record { seen = v.seen; parts = v.parts; callers = v.callers }

  abbrev pub both : View T → View T → View T
  both v w = record v { seen = longer v.seen w.seen; parts = v.parts ++ w.parts; callers = v.callers ++ w.callers; sides = side_of v ∷ side_of w ∷ [] }

module _ {T : Type 0} (caller : T → ℕ) where
  -- the entries from the position n on are of callers
  abbrev pub AreCallersFrom : (most n : ℕ) → List T → Type 0
  AreCallersFrom most n log = (k : ℕ) (e : T) → n ≤ k → get_elem? log k ≡ some e → IsCaller most (caller e)

module _ {T : Type 0} (caller : T → ℕ) (touches : T → ℕ → Bool) where
  -- what a seat knows of a history
  pub record Tells (seen : List T) (parts callers : List ℕ) (last : ℕ) (log : List T) : Type 0 where
    pub begins : IsPrefix seen log
    pub spares : (k : ℕ) (e : T) (p : ℕ) → length seen ≤ k → get_elem? log k ≡ some e → contains parts p ≡ true → (p ≢ last) × (touches e p ≡ false)
    pub lacks : (k : ℕ) (e : T) (c : ℕ) → length seen ≤ k → get_elem? log k ≡ some e → contains callers c ≡ true → caller e ≢ c

  -- what the rule says of the view of the seat id
  pub record Fits (last most : ℕ) (log : List T) (part_owner caller_owner : ℕ → ℕ) (id : ℕ) (v : View T) : Type 0 where
    pub last_is : v.live ≡ true → v.last ≡ last
    pub most_is : v.live ≡ true → v.most ≡ most
    pub tells : Tells v.seen v.parts v.callers last log
    pub once : HasNoRepeat v.parts
    pub parts : (p : ℕ) → contains v.parts p ≡ true → part_owner p ≡ id
    pub callers : (c : ℕ) → contains v.callers c ≡ true → (caller_owner c ≡ id) × IsCaller most c
    pub first : IsPrefix v.first v.seen
    pub later : v.live ≡ true → AreCallersFrom caller most (length v.first) log
    pub sides : (k : ℕ) (o : Side T) → get_elem? v.sides k ≡ some o → Tells o.seen o.parts o.callers last v.seen
    pub dead : v.live ≡ false → (v.seen ≡ []) × (v.parts ≡ []) × (v.callers ≡ []) × (v.sides ≡ []) × (v.first ≡ [])
    pub boots : v.boots ≡ true → (v.live ≡ false) × (v.size ≡ length log) × (v.last ≡ last) × (v.most ≡ most)

  -- The rule: there is one history, whose length is the word
  pub record Kept (a : About) (s : State (Unit {0}) (View T)) : Type 0 where
    pub log : List T
    pub part_owner : ℕ → ℕ
    pub caller_owner : ℕ → ℕ
    pub wide : length s.words ≡ 1
    pub count : slice_index s.words 0 ≡ length log
    pub each : (id : ℕ) (v : View T) → get_elem? s.views id ≡ some v → Fits a.last a.callers log part_owner caller_owner id v
    pub alone : (id : ℕ) (v : View T) → get_elem? s.views id ≡ some v → v.boots ≡ true → (j : ℕ) (u : View T) → get_elem? s.views j ≡ some u → (u.live ≡ false) × (u.boots ≡ true → j ≡ id)

  -- a load: n entries stood there
  pub record Learned (m : Me (Unit {0}) (View T)) (n : ℕ) (w : Me (Unit {0}) (View T)) : Type 0 where
    pub after : w ≡ (record m.0 { sides = [] }, m.1)
    pub sides : (k : ℕ) (o : Side T) → get_elem? m.0.sides k ≡ some o → Tells o.seen o.parts o.callers m.0.last m.0.seen
    pub once : HasNoRepeat m.0.parts
    pub first : IsPrefix m.0.first m.0.seen
    pub later : AreCallersFrom caller m.0.most (length m.0.first) m.0.seen
    pub least : length m.0.seen ≤ n
    pub whole : contains m.0.parts m.0.last ≡ true → n ≡ length m.0.seen

  abbrev pub learned : Step (Unit {0}) → Me (Unit {0}) (View T) → ℕ → Me (Unit {0}) (View T) → Type 0
  learned st m n w = Learned m n w

module _ {T : Type 0} where
  -- an entry became the last of n + 1
  pub record Added (told : Option T) (m : Me (Unit {0}) (View T)) (n : ℕ) (w : Me (Unit {0}) (View T)) : Type 0 where
    pub found : n ≡ length m.0.seen
    pub after : (e : T) → told ≡ Some e → w ≡ (record m.0 { seen = m.0.seen ++ e ∷ []; sides = [] }, m.1)
    pub callers : (c : ℕ) → contains m.0.callers c ≡ true → IsCaller m.0.most c

  abbrev pub added : Option T → Step (Unit {0}) → Me (Unit {0}) (View T) → ℕ → Me (Unit {0}) (View T) → Type 0
  added told st m n w = Added told m n w

  abbrev pub begun : List T → Step (Unit {0}) → Me (Unit {0}) (View T) → ℕ → Me (Unit {0}) (View T) → Type 0
  begun entries st m n w = w ≡ (opened entries m.0, m.1)
