-- Stars that are those of one state.
use Rattle.std.specs.Prelude.{◌≡◌, ℕ, true, List, Option}
use Rattle.plane.specs.declared.coordinates.Point.{Point}
use Rattle.star.specs.Stars.{Seen}
use Rattle.star.specs.StarOf.{IsStarOf}
use Rattle.journal_defs.specs.declared.edit.Edit.{Edit}
use Rattle.journal_defs.specs.Edits.{State, IsSound, touches}
use Rattle.journal_defs.specs.Table.{seen_of}

-- the stars of the vertices that the edit touches are those of some sound state
abbrev pub AreTrueStars : List Point → (ℕ → Option Seen) → Edit → Type 0
AreTrueStars S star e =
    (s : State) × IsSound S s × ((v : ℕ) → touches e v ≡ true → IsStarOf S s.all s.kept v (seen_of star v))
