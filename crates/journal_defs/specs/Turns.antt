-- Edits that fit one after another, each on the stars that those before it leave.
use Rattle.std.specs.Prelude.{ℕ, Bool, List, [], ◌∷◌}
use Rattle.plane.specs.declared.coordinates.Point.{Point}
use Rattle.star.specs.Stars.{Seen, HasMark}
use Rattle.journal_defs.specs.declared.edit.Edit.{Edit}
use Rattle.journal_defs.specs.Table.{Fits}
use Rattle.journal_defs.specs.Neighbours.{list_after}

-- the stars after an edit, whether it fits or not: the list of each has taken the edit's step
abbrev pub stars_after : List Point → Edit → (ℕ → Seen) → ℕ → Seen
stars_after S e at v = record (at v) { list = list_after S v e (at v).list }

-- each edit fits in its turn
abbrev pub FitInTurn : List Point → (ℕ → Seen) → List Edit → Type 0
FitInTurn S at [] = Unit {0}
FitInTurn S at (e ∷ es) = Fits S at e × FitInTurn S (stars_after S e at) es

-- of two stars at vertices of V each has the other where one has it, with the same mark
abbrev pub AreMutual : (ℕ → Seen) → (ℕ → Type 0) → Type 0
AreMutual at V = (v w : ℕ) (b : Bool) → V v → V w → HasMark (at v) w b → HasMark (at w) v b
