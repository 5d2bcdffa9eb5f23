-- For private clauses.
-- Stamps of all vertices.
use Rattle.std.specs.Prelude.{◌≡◌, ℕ, ◌<◌, Bool, if◌then◌else◌, List, length, slice_index}
use Rattle.journal_defs.specs.declared.commit.Commit.{Commit}
use Rattle.journal_defs.specs.Journal.{last}

-- those that pass the test have got the number, and the others stayed
pub record AreMarked (test : ℕ → Bool) (number : ℕ) (old new : List ℕ) : Type 0 where
  pub long : length new ≡ length old
  pub each : (v : ℕ) → v < length old → slice_index new v ≡ (if test v then number else slice_index old v)

-- each is the number of the last commit that touches its vertex
pub record AreStampsOf (J : List Commit) (count : ℕ) (stamps : List ℕ) : Type 0 where
  pub long : length stamps ≡ count
  pub each : (v : ℕ) → v < count → slice_index stamps v ≡ last J v
