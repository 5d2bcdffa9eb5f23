-- For private clauses.
-- Marks that the numbers of a list take away.
use Rattle.std.specs.Prelude.{◌≢◌, ℕ, ◌<◌, ◌↔◌, List, length, Bool, IsTrue}
use Rattle.border.specs.Cycle.{at}
use Rattle.border.specs.Inner.{mark}

-- the marks that are set are those of the numbers that aren't among the first n of the list
abbrev pub AreOthers : List ℕ → ℕ → List Bool → Type 0
AreOthers B n M = (v : ℕ) → v < length M → IsTrue (mark M v) ↔ ((j : ℕ) → j < n → at B j ≢ v)
