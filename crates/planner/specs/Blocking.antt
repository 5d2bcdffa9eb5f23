-- For private clauses.
-- Drops that can't fit in their turn.
use Rattle.std.specs.Prelude.{◌≡◌, ℕ, ◌⊎◌, false, List}
use Rattle.plane.specs.declared.coordinates.Point.{Point}
use Rattle.star.specs.Stars.{Seen}
use Rattle.journal_defs.specs.declared.edit.Edit.{Edit}
use Rattle.journal_defs.specs.declared.edit.Edit.TheVariants.{Drop, Keep, Flip}
use Rattle.journal_defs.specs.Table.{IsOpened}
use Rattle.edit.specs.Plans.{are_touching}

-- a need opens at v without its pair with w, and none of the edits before touches v
abbrev pub OpensUntouched : List Point → (ℕ → Seen) → List Edit → (v w : ℕ) → Type 0
OpensUntouched S at before v w = (are_touching before v ≡ false) × IsOpened S (at v) v w

-- the edit is a drop, and this holds at one of its ends
abbrev pub Blocks : List Point → (ℕ → Seen) → List Edit → Edit → Type 0
Blocks S at before (Drop e) = OpensUntouched S at before e.lo e.hi ⊎ OpensUntouched S at before e.hi e.lo
Blocks S at before (Keep e) = ⊥
Blocks S at before (Flip e f) = ⊥
