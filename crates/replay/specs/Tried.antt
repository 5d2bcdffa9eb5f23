-- For private clauses.
-- One step of the sweep of a core.
use Rattle.std.specs.Prelude.{◌≡◌, ℕ, ◌⊎◌, List, [], ◌∷◌, length}
use Rattle.plane.specs.declared.segment.Pair.{Pair}
use Rattle.journal_defs.specs.Edits.{IsLegalDrop}
use Rattle.journal_defs.specs.Journal.{drops, made}
use Rattle.replay.specs.Replayed.{Replayed, state_of, GrowsBy, IsAsBefore}
use Rattle.replay.specs.Swept.{HasSwept}

-- the drop of e was tried: where it was legal, one commit of caller 0 has it, and else all is as before
abbrev pub HasTried : (old new : Replayed) → Pair → ℕ → Type 0
HasTried old new e count =
    (IsLegalDrop old.points (state_of old) e × GrowsBy old new (drops (made 0 old.journal) (e ∷ [])) × (count ≡ 1))
    ⊎ (¬ IsLegalDrop old.points (state_of old) e × IsAsBefore old new × (count ≡ 0))

-- a sweep has gone through these pairs so far, and dropped so many
pub record IsSweeping (old now : Replayed) (pairs : List Pair) (count : ℕ) : Type 0 where
  pub dropped : List Pair
  pub swept : HasSwept old now pairs dropped
  pub counted : count ≡ length dropped
