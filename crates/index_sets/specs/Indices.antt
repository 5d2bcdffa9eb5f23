-- Lists of indices, read as sets.
use Rattle.std.specs.Prelude.{◌≡◌, ℕ, zero, suc, Bool, false, nat_eq, if◌then◌else◌, ◌||◌, ⊤, List, [], ◌∷◌}

-- whether the index is among them
abbrev pub contains : List ℕ → ℕ → Bool
contains [] i = false
contains (x ∷ xs) i = nat_eq x i || contains xs i

-- the others
abbrev pub all_but : List ℕ → ℕ → List ℕ
all_but [] i = []
all_but (x ∷ xs) i = if nat_eq x i then all_but xs i else x ∷ all_but xs i

-- none stands twice
abbrev pub HasNoRepeat : List ℕ → Type 0
HasNoRepeat [] = ⊤
HasNoRepeat (x ∷ xs) = (contains xs x ≡ false) × HasNoRepeat xs

-- n, n + 1 and so on, so many
abbrev pub numbers_from : (n count : ℕ) → List ℕ
numbers_from n zero = []
numbers_from n (suc count) = n ∷ numbers_from (suc n) count
