-- For private clauses.
-- Parts of a drop's row in the table of refusals.
use Rattle.std.specs.Prelude.{List, Result, Ok, Err}
use Rattle.plane.specs.declared.coordinates.Point.{Point}
use Rattle.plane.specs.declared.segment.Pair.{Pair}
use Rattle.star.specs.Stars.{Seen}
use Rattle.star.specs.StarOf.{IsStarOf}
use Rattle.journal_defs.specs.declared.edit.Why.{Why}
use Rattle.journal_defs.specs.declared.edit.Why.TheVariants.{NotThere, NotKept}
use Rattle.journal_defs.specs.Edits.{State, IsSound}
use Rattle.journal_defs.specs.Table.{Shows, ShowsKept}

-- e is kept, or why it isn't
abbrev pub IsKeptOrWhy : {T : Type 0} → Seen → Pair → Result T Why → Type 0
IsKeptOrWhy {T} low e (Ok _) = Shows low e × ShowsKept low e
IsKeptOrWhy {T} low e (Err NotThere) = ¬ Shows low e
IsKeptOrWhy {T} low e (Err NotKept) = Shows low e × ¬ ShowsKept low e
IsKeptOrWhy {T} low e (Err _) = ⊥

-- the stars of the two ends of e are those of some sound state
abbrev pub AreTrueEnds : List Point → (low high : Seen) → Pair → Type 0
AreTrueEnds S low high e =
    (s : State) × IsSound S s × IsStarOf S s.all s.kept e.lo low × IsStarOf S s.all s.kept e.hi high
