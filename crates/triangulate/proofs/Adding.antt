-- What joining one more pair does to a set of pairs.
use Rattle.std.proofs.Common.{◌≡◌, ℕ, ◌⊎◌}

-- the pair a-z is joined
pub record Adds (J J2 : ℕ → ℕ → Type 0) (a z : ℕ) : Type 0 where
  pub old : (p q : ℕ) → J p q → J2 p q
  pub new : J2 a z
  pub back : J2 z a
  pub only : (p q : ℕ) → J2 p q → J p q ⊎ (((p ≡ a) × (q ≡ z)) ⊎ ((p ≡ z) × (q ≡ a)))
