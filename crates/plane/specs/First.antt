-- The first index, and the first pair of indices, with a property.
use Rattle.std.specs.Prelude.{◌≡◌, ℕ, ◌<◌, ◌⊎◌, Option, Some, None}

-- k is the least number below n with P
pub record IsLeast (P : ℕ → Type 0) (n k : ℕ) : Type 0 where
  pub within : k < n
  pub holds : P k
  pub before : (j : ℕ) → j < k → ¬ P j

-- the least number below n with P, or none where no number below n has it
abbrev pub IsLeastOrNone : (ℕ → Type 0) → ℕ → Option ℕ → Type 0
IsLeastOrNone P n None = (k : ℕ) → k < n → ¬ P k
IsLeastOrNone P n (Some k) = IsLeast P n k

-- the pair k, l comes before i, j: by its first, and then by its second number
abbrev pub ComesBefore : (k l i j : ℕ) → Type 0
ComesBefore k l i j = (k < i) ⊎ ((k ≡ i) × (l < j))

-- i, j is the first pair i < j below n with R
pub record IsFirstPair (R : ℕ → ℕ → Type 0) (n i j : ℕ) : Type 0 where
  pub ordered : i < j
  pub within : j < n
  pub holds : R i j
  pub before : (k l : ℕ) → k < l → l < n → ComesBefore k l i j → ¬ R k l

-- the first such pair, or none where no pair has R
abbrev pub IsFirstPairOrNone : (ℕ → ℕ → Type 0) → ℕ → Option (ℕ × ℕ) → Type 0
IsFirstPairOrNone R n None = (k l : ℕ) → k < l → l < n → ¬ R k l
IsFirstPairOrNone R n (Some p) = IsFirstPair R n p.0 p.1
