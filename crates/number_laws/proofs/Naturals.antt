-- Cases of natural numbers.
use Rattle.std.proofs.Common.{◌≡◌, ◌≢◌, ℕ, zero, suc, ◌+◌, ◌<◌, ◌≤◌, ◌⊎◌, arith}

pub equal_or_not : (m n : ℕ) → (m ≡ n) ⊎ (m ≢ n)
equal_or_not m n = grind arith

-- two different numbers stand in an order
pub below_or_above : (m n : ℕ) → m ≢ n → (m < n) ⊎ (n < m)
below_or_above m n ne = grind arith

-- what is below k + 1 is below k or is k
pub below_or_last : (i k : ℕ) → i < k + 1 → (i < k) ⊎ (i ≡ k)
below_or_last i k h = grind arith

pub below_differs : (m n : ℕ) → m < n → m ≢ n
below_differs m n h e = omega arith

-- of two and more numbers one is another than p
pub another : (n p : ℕ) → 2 ≤ n → (q : ℕ) × (q < n) × (q ≢ p)
another n zero h = (1, omega arith, λ e. absurd (omega arith))
another n (suc p) h = (0, omega arith, λ e. absurd (omega arith))
