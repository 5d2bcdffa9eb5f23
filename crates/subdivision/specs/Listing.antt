-- For private clauses.
-- Segments collected from the stars of their smaller ends.
use Rattle.std.specs.Prelude.{◌≡◌, ◌≢◌, ℕ, ◌+◌, ◌<◌, ◌↔◌, ◌⊎◌, Bool, true, if◌then◌else◌, List, [], ◌∷◌, ◌++◌, length, slice_index_or}
use Rattle.std.specs.List.{AllPairs, Contains}
use Rattle.plane.specs.declared.segment.Pair.{Pair}
use Rattle.star.specs.Stars.{Seen, entry}
use Rattle.partition_defs.specs.Ascending.{ComesFirst}
use Rattle.subdivision.specs.Layout.{star_at, has, keeps, all_of, kept_of}

-- whether w is a neighbour, where the kept ones alone are wanted a kept one
abbrev pub picks : Bool → Seen → ℕ → Bool
picks kept_only s w = if kept_only then keeps s w else has s w

abbrev pub picked_of : Bool → List Seen → List Pair
picked_of kept_only stars = if kept_only then kept_of stars else all_of stars

-- no neighbour stands twice, and all are below n
abbrev pub IsTidy : ℕ → Seen → Type 0
IsTidy n s = ((i j : ℕ) → i < j → j < length s.list → (entry s.list i).0 ≢ (entry s.list j).0) × ((k : ℕ) → k < length s.list → (entry s.list k).0 < n)

abbrev pub AreTidy : List Seen → Type 0
AreTidy stars = (v : ℕ) → v < length stars → ((star_at stars v).centre ≡ v) × IsTidy (length stars) (star_at stars v)

-- a neighbour among the first k is picked
abbrev pub IsPicked : Bool → Seen → (k w : ℕ) → Type 0
IsPicked kept_only s k w = (j : ℕ) × (j < k) × (j < length s.list) × ((entry s.list j).0 ≡ w) × (kept_only ≡ true → (entry s.list j).1 ≡ true)

-- a list without repeats of the old segments and those from v to the picked among the first k neighbours
pub record HasRow (kept_only : Bool) (old new : List Pair) (v : ℕ) (s : Seen) (k : ℕ) : Type 0 where
  pub distinct : AllPairs (λ e f. e ≢ f) new
  pub members : (e : Pair) → Contains new e ↔ (Contains old e ⊎ ((e.lo ≡ v) × IsPicked kept_only s k e.hi))

-- the segment from v to w has come in where it is wanted and w is larger
abbrev pub Collects : (old new : List Pair) → (v w : ℕ) → Bool → Type 0
Collects old new v w wanted =
    ((v < w) × (wanted ≡ true) × ((p : Pair) × (p.lo ≡ v) × (p.hi ≡ w) × (new ≡ old ++ p ∷ []))) ⊎ (¬ ((v < w) × (wanted ≡ true)) × (new ≡ old))

-- a list without repeats of the segments whose smaller end is below v
pub record HasRows (kept_only : Bool) (stars : List Seen) (list : List Pair) (v : ℕ) : Type 0 where
  pub distinct : AllPairs (λ e f. e ≢ f) list
  pub members : (e : Pair) → Contains list e ↔ ((e.lo < v) × (e.lo < length stars) × (picks kept_only (star_at stars e.lo) e.hi ≡ true))

-- the same segments, and none comes before an earlier one
pub record IsSortedFrom (old new : List Pair) : Type 0 where
  pub distinct : AllPairs (λ e f. e ≢ f) old → AllPairs (λ e f. e ≢ f) new
  pub members : (e : Pair) → Contains new e ↔ Contains old e
  pub order : (k : ℕ) (d : Pair) → k + 1 < length new → ¬ ComesFirst (slice_index_or new (k + 1) d) (slice_index_or new k d)
