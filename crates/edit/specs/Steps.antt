-- The star of a vertex before an edit that touches it, and after it.
use Rattle.std.specs.Prelude.{◌≡◌, ℕ, ◌+◌, ◌≤◌, Bool, false, List}
use Rattle.plane.specs.declared.coordinates.Point.{Point}
use Rattle.star.specs.Stars.{Seen, IsStar, SamePlace}
use Rattle.star.specs.StarOf.{IsStarOf}
use Rattle.journal_defs.specs.declared.edit.Edit.{Edit}
use Rattle.journal_defs.specs.declared.edit.Edit.TheVariants.{Drop, Keep, Flip}
use Rattle.journal_defs.specs.Edits.{State, after, is_end, IsSound, IsLegal}
use Rattle.journal_defs.specs.Neighbours.{list_after}

-- the edit puts a neighbour into the star of v
abbrev pub puts_in : Edit → ℕ → Bool
puts_in (Drop e) v = false
puts_in (Keep e) v = false
puts_in (Flip e f) v = is_end f v

-- the star is that of its centre in a sound state in which the edit is legal
abbrev pub IsBefore : List Point → Edit → Seen → Type 0
IsBefore S e star = (s : State) × IsSound S s × IsLegal S s e × IsStarOf S s.all s.kept star.centre star

-- the star has become that of its centre in the state after the edit, whichever state it was of before
pub record IsAfter (S : List Point) (e : Edit) (old new : Seen) : Type 0 where
  pub star : (s : State) → IsSound S s → IsLegal S s e → IsStarOf S s.all s.kept old.centre old
      → IsStarOf S (after e s).all (after e s).kept old.centre new
  pub list : new.list ≡ list_after S old.centre e old.list
  pub place : SamePlace old new
  pub order : IsStar new
  -- it has as much room as before, less the place of the neighbour that was put in
  pub room : puts_in e old.centre ≡ false → old.spare ≤ new.spare
  pub room_left : old.spare ≤ new.spare + 1
