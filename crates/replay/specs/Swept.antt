-- The sweep of a core.
use Rattle.std.specs.Prelude.{◌≡◌, ℕ, take, List, length}
use Rattle.plane.specs.declared.segment.Pair.{Pair}
use Rattle.journal_defs.specs.Journal.{IsSwept, drops, made}
use Rattle.replay.specs.Replayed.{Replayed, state_of, GrowsBy}

-- a sweep through these pairs has dropped those, in one commit of caller 0 each
pub record HasSwept (old new : Replayed) (pairs dropped : List Pair) : Type 0 where
  pub swept : IsSwept old.points (state_of old) pairs dropped
  pub grows : GrowsBy old new (drops (made 0 old.journal) dropped)

-- all kept pairs were gone through, and so many were dropped
abbrev pub IsSweptOut : (old new : Replayed) → ℕ → Type 0
IsSweptOut old new count = (dropped : List Pair) × HasSwept old new (state_of old).kept dropped × (count ≡ length dropped)

-- some of the kept pairs were gone through, the first ones
abbrev pub IsSweptInPart : (old new : Replayed) → Type 0
IsSweptInPart old new = (k : ℕ) × (dropped : List Pair) × HasSwept old new (take k (state_of old).kept) dropped
