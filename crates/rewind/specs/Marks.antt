-- For private clauses.
-- Kept pairs through edits.
use Rattle.std.specs.Prelude.{◌≡◌, List}
use Rattle.plane.specs.declared.segment.Pair.{Pair}
use Rattle.journal_defs.specs.Edits.{State}

-- the kept pairs of a state have come to those after a change
abbrev pub HaveMarked : (old new : List Pair) → (State → State) → Type 0
HaveMarked old new change = (s : State) → s.kept ≡ old → new ≡ (change s).kept
