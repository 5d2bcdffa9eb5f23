-- What calls do to the bytes that a source has left and that a sink holds, where those are told.
use Rattle.std.specs.Prelude.{◌≡◌, ℕ, ◌<◌, ◌≤◌, List, length, take, drop, Some, Result, IfOk}
use Rattle.std.specs.declared.option.Option.{Option}
use Rattle.std.specs.Io.KnownBytes.{Consumes, Appends, IsAtEnd}

-- at Ok(k) the first k bytes left moved to the front of the room; none into a room that isn't empty only at the end
abbrev pub Takes : {E : Type 0} → Option (List ℕ) → Option (List ℕ) → Result ℕ E → List ℕ → Type 0
Takes old new result room = IfOk result (λ k. Consumes old new (take k room) × (k ≡ 0 → 0 < length room → IsAtEnd new))

-- the first n of these bytes were taken, and the rest is left
abbrev pub Took : ℕ → List ℕ → Option (List ℕ) → Type 0
Took n bytes left = (n ≤ length bytes) × (left ≡ Some (drop n bytes))

-- the bytes held grew by a prefix of these
abbrev pub AppendsPrefix : Option (List ℕ) → Option (List ℕ) → List ℕ → Type 0
AppendsPrefix old new bytes = (n : ℕ) × (n ≤ length bytes) × Appends old new (take n bytes)
