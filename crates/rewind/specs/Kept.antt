-- The kept pairs of an earlier moment.
use Rattle.std.specs.Prelude.{◌≡◌, ℕ, List, take}
use Rattle.plane.specs.declared.segment.Pair.{Pair}
use Rattle.journal_defs.specs.Journal.{replay}
use Rattle.replay.specs.Replayed.{Replayed}

-- these are the kept pairs after the first k commits
abbrev pub AreKept : Replayed → ℕ → List Pair → Type 0
AreKept c k list = list ≡ (replay c.start (take k c.journal)).kept
