-- For private clauses.
-- What a reading took before it ended without its bytes, in steps.
use Rattle.std.specs.Prelude.{◌≡◌, ℕ, ◌+◌, ◌≤◌, List, length}
use Rattle.std.specs.declared.option.Option.{Option}
use Rattle.std.specs.Io.KnownBytes.{Consumes}
use Rattle.mcp_outside.specs.declared.ends.ReadEnd.{ReadEnd}
use Rattle.mcp_outside.specs.declared.ends.ReadEnd.TheVariants.{Failed, TooLong, NoMemory}

-- n bytes were taken from the front
abbrev pub TakesCount : Option (List ℕ) → Option (List ℕ) → ℕ → Type 0
TakesCount old new n = (bytes : List ℕ) × (length bytes ≡ n) × Consumes old new bytes

-- How many bytes were taken before a reading ended without its bytes: one more than the limit, or at most the limit, each
-- call but the last a byte; or nothing is said. The calls are told by the count before and after.
abbrev pub EndsAfter : ℕ → ℕ × ℕ → Option (List ℕ) → Option (List ℕ) → ReadEnd → Type 0
EndsAfter limit calls old new Failed = Unit {0}
EndsAfter limit calls old new TooLong = TakesCount old new (limit + 1)
EndsAfter limit calls old new NoMemory = (n : ℕ) × (n ≤ limit) × (calls.1 ≤ calls.0 + n + 1) × TakesCount old new n
