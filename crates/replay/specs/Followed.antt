-- For private clauses.
-- Stars of which some have followed an edit.
use Rattle.std.specs.Prelude.{◌≡◌, ℕ, ◌<◌, Bool, true, false, List, length}
use Rattle.plane.specs.declared.coordinates.Point.{Point}
use Rattle.star.specs.Stars.{Seen}
use Rattle.subdivision.specs.Layout.{star_at}
use Rattle.journal_defs.specs.declared.edit.Edit.{Edit}
use Rattle.journal_defs.specs.declared.edit.Edit.TheVariants.{Drop, Keep, Flip}
use Rattle.journal_defs.specs.Edits.{touches, is_end}
use Rattle.edit.specs.Steps.{IsBefore, IsAfter, puts_in}

-- the star of v can follow the edit
pub record IsReady (S : List Point) (e : Edit) (stars : List Seen) (v : ℕ) : Type 0 where
  pub within : v < length stars
  pub points : S ≡ (star_at stars v).points
  pub centre : (star_at stars v).centre ≡ v
  pub touched : touches e v ≡ true
  pub before : IsBefore S e (star_at stars v)
  pub room : puts_in e v ≡ true → 0 < (star_at stars v).spare

-- the stars of these vertices have followed the edit, and the others are as before
pub record HaveFollowed (S : List Point) (e : Edit) (at : ℕ → Bool) (old new : List Seen) : Type 0 where
  pub len : length new ≡ length old
  pub done : (v : ℕ) → at v ≡ true → IsAfter S e (star_at old v) (star_at new v)
  pub rest : (v : ℕ) → at v ≡ false → star_at new v ≡ star_at old v

-- the old and the new pair of a flip have no end in common
abbrev pub AreApart : Edit → Type 0
AreApart (Flip e f) = (v : ℕ) → is_end e v ≡ true → is_end f v ≡ true → ⊥
AreApart (Drop e) = Unit {0}
AreApart (Keep e) = Unit {0}
