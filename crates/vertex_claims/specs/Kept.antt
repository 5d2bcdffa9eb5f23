-- For private clauses.
-- The rule of the claims' table, and what each step tells.
use Rattle.std.specs.Prelude.{◌≡◌, ◌≢◌, ℕ, ◌+◌, ◌<◌, ◌≤◌, true, false, List, [], ◌∷◌, ◌++◌, length, slice_index, Option, Some, None}
use mathlib.Core.Option.{some}
use mathlib.Core.Option as maybe
use lib.ListN.{get_elem?}
use Rattle.atomic_table.specs.Table.{State, Me, Step, rest}
use Rattle.index_sets.specs.Indices.{contains, all_but, numbers_from}
use Rattle.index_sets.specs.Owners.{one_of, rest_of}
use Rattle.vertex_claims.specs.declared.table.View.{View}
use Rattle.vertex_claims.specs.declared.table.About.{About}

module _ {R : Type 0} where
  -- how many numbers the views have
  abbrev pub many : List (View R) → ℕ
  many [] = 0
  many (v ∷ vs) = length v.numbers + many vs

  -- the first number goes to a new seat
  abbrev pub without_number : View R → View R
  without_number v = record v { numbers = rest_of v.numbers }

  abbrev pub with_number : View R → View R
  with_number v = record v { numbers = one_of v.numbers; wins = []; misses = [] }

  abbrev pub both : View R → View R → View R
  both v w = record v { numbers = v.numbers ++ w.numbers }

  abbrev pub spent : View R
  spent = record { root = None; callers = 0; numbers = []; places = []; busy = None; wins = []; misses = [] }

  -- all places are held, and all numbers are one seat's
  abbrev pub first_view : About R → View R
  first_view a = record { root = Some a.root.value; callers = a.callers; numbers = numbers_from 1 a.callers; places = numbers_from 0 a.places; busy = None; wins = []; misses = [] }

  -- the place was won, and its slot is in hand
  abbrev pub won : View R → ℕ → View R
  won v i = record v { places = v.places ++ i ∷ []; busy = Some i; wins = v.wins ++ i ∷ [] }

  abbrev pub missed : View R → ℕ → ℕ → View R
  missed v i n = record v { misses = v.misses ++ (i, n) ∷ [] }

  abbrev pub at_rest : View R → View R
  at_rest v = record v { busy = None }

  abbrev pub given : View R → ℕ → View R
  given v i = record v { places = all_but v.places i; busy = None }

module _ {R C : Type 0} (fits : R → ℕ → C → Type 0) where
  -- a seat with the number n
  pub record Told (a : About R) (owner : ℕ → ℕ) (id : ℕ) (v : View R) (n : ℕ) : Type 0 where
    pub owned : owner n ≡ id
    pub positive : 0 < n
    pub within : n ≤ a.callers
    pub root : v.root ≡ Some a.root.value
    pub callers : v.callers ≡ a.callers

  pub record Holds (words : List ℕ) (v : View R) (i : ℕ) : Type 0 where
    pub near : i < length words
    pub mine : contains v.numbers (slice_index words i) ≡ true

  -- what the rule says of one view
  pub record Knows (a : About R) (words : List ℕ) (homes : List (maybe.Option (Option C))) (owner : ℕ → ℕ) (id : ℕ) (v : View R) : Type 0 where
    pub told : (n : ℕ) → contains v.numbers n ≡ true → Told a owner id v n
    pub holds : (i : ℕ) → contains v.places i ≡ true → Holds words v i
    pub held : (i : ℕ) → i < length words → contains v.numbers (slice_index words i) ≡ true → contains v.places i ≡ true
    pub empty : (i : ℕ) → contains v.places i ≡ true → v.busy ≢ Some i → get_elem? homes i ≡ some (some None)

  -- a free place has a cell that meets its fact
  pub record IsFilled (a : About R) (homes : List (maybe.Option (Option C))) (i : ℕ) : Type 0 where
    pub cell : C
    pub home : get_elem? homes i ≡ some (some (Some cell))
    pub meets : fits a.root.value i cell

  -- the number n is one of those of the seat that owns it
  pub record Owned (views : List (View R)) (owner : ℕ → ℕ) (n : ℕ) : Type 0 where
    pub view : View R
    pub here : get_elem? views (owner n) ≡ some view
    pub mine : contains view.numbers n ≡ true

  pub record Kept (a : About R) (s : State (Option C) (View R)) : Type 0 where
    pub owner : ℕ → ℕ
    pub wide : length s.words ≡ length s.homes
    pub within : (i : ℕ) → i < length s.words → slice_index s.words i ≤ a.callers
    pub free : (i : ℕ) → i < length s.words → slice_index s.words i ≡ 0 → IsFilled a s.homes i
    pub each : (id : ℕ) (v : View R) → get_elem? s.views id ≡ some v → Knows a s.words s.homes owner id v
    pub full : (n : ℕ) → 0 < n → n ≤ a.callers → Owned s.views owner n
    pub total : many s.views ≡ a.callers

  pub record Won (m : Me (Option C) (View R)) (i : ℕ) (w : Me (Option C) (View R)) : Type 0 where
    pub root : R
    pub root_is : m.0.root ≡ Some root
    pub cell : C
    pub meets : fits root i cell
    pub after : w ≡ (won m.0 i, (i, Some cell) ∷ m.1)

  pub record Lost (m : Me (Option C) (View R)) (i n : ℕ) (w : Me (Option C) (View R)) : Type 0 where
    pub least : 1 ≤ n
    pub most : n ≤ m.0.callers
    pub another : contains m.0.numbers n ≡ false
    pub after : w ≡ (missed m.0 i n, m.1)

  -- one try
  abbrev pub tried : Step (Option C) → Me (Option C) (View R) → ℕ → Me (Option C) (View R) → Type 0
  tried st m n w = (n ≡ 0 → Won m st.word w) × (n ≢ 0 → Lost m st.word n w)

module _ {R C : Type 0} where
  -- the empty slot goes home
  abbrev pub laid : Step (Option C) → Me (Option C) (View R) → ℕ → Me (Option C) (View R) → Type 0
  laid st m n w = w ≡ (at_rest m.0, rest m.1)

  -- the empty slot of a place that is held comes
  abbrev pub lifted : Step (Option C) → Me (Option C) (View R) → ℕ → Me (Option C) (View R) → Type 0
  lifted st m n w = w ≡ (record m.0 { busy = Some st.word }, (st.word, None) ∷ m.1)

  -- the filled slot goes home, and the place is free
  abbrev pub backed : Step (Option C) → Me (Option C) (View R) → ℕ → Me (Option C) (View R) → Type 0
  backed st m n w = w ≡ (given m.0 st.word, rest m.1)
