-- For private clauses.
-- Who owns which index, as a function from the index to its owner.
use Rattle.std.specs.Prelude.{◌≡◌, ℕ, true, false, nat_eq, if◌then◌else◌, List, [], ◌∷◌}
use Rattle.index_sets.specs.Indices.{contains}

-- the first of the list, alone, and the others
abbrev pub one_of : List ℕ → List ℕ
one_of [] = []
one_of (i ∷ is) = i ∷ []

abbrev pub rest_of : List ℕ → List ℕ
rest_of [] = []
rest_of (i ∷ is) = is

-- these indices go to a new owner
abbrev pub handed : (owner : ℕ → ℕ) → (indices : List ℕ) → (new : ℕ) → ℕ → ℕ
handed owner indices new i = if contains indices i then new else owner i

-- all that the old owner had goes to the new one
abbrev pub merged : (owner : ℕ → ℕ) → (old new : ℕ) → ℕ → ℕ
merged owner old new i = if nat_eq (owner i) old then new else owner i

-- the indices are cut in two: those that stay, and those that go
pub record IsCut (indices stay go : List ℕ) : Type 0 where
  pub left : (i : ℕ) → contains stay i ≡ true → (contains indices i ≡ true) × (contains go i ≡ false)
  pub right : (i : ℕ) → contains go i ≡ true → contains indices i ≡ true
