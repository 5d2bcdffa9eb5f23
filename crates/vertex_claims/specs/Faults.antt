-- When claims aren't closed.
use Rattle.std.specs.Prelude.{◌≡◌, ℕ, ◌<◌, ◌≤◌}
use Rattle.vertex_claims.specs.declared.closing.CloseFault.{CloseFault}
use Rattle.vertex_claims.specs.declared.closing.CloseFault.TheVariants.{Missing, NoMemory}

-- of so many holders so many were given
abbrev pub HasCause : (callers given : ℕ) → CloseFault → Type 0
HasCause callers given (Missing m g) = (given < callers) × (m ≡ callers) × (g ≡ given)
HasCause callers given NoMemory = callers ≤ given
