-- For private clauses.
-- Room in the stars for the flips of a commit, forth and back.
use Rattle.std.specs.Prelude.{◌≡◌, ℕ, ◌+◌, ◌≤◌, true, List, length}
use Rattle.std.specs.List.{All}
use Rattle.plane.specs.declared.segment.Pair.{Pair}
use Rattle.star.specs.Stars.{Seen}
use Rattle.subdivision.specs.Layout.{Layout, star_at, IsSubdivision}
use Rattle.journal_defs.specs.declared.edit.Edit.{Edit}
use Rattle.journal_defs.specs.declared.edit.Edit.TheVariants.{Drop, Keep, Flip}
use Rattle.journal_defs.specs.Edits.{touches, is_end}
use Rattle.replay.specs.Machine.{layers}

-- the room in the star of a vertex
abbrev pub spare_at : List Seen → ℕ → ℕ
spare_at stars v = (star_at stars v).spare

-- where the edit is a flip there is room for so many neighbours at each vertex that it touches
abbrev pub HasRoomFor : ℕ → List Seen → Edit → Type 0
HasRoomFor m stars (Drop e) = Unit {0}
HasRoomFor m stars (Keep e) = Unit {0}
HasRoomFor m stars (Flip e f) = (v : ℕ) → touches (Flip e f) v ≡ true → m ≤ spare_at stars v

abbrev pub HasRoomForAll : ℕ → List Seen → List Edit → Type 0
HasRoomForAll m stars edits = All (HasRoomFor m stars) edits

-- at both ends of the pair there is room for so many neighbours
abbrev pub HasRoomAtEnds : ℕ → List Seen → Pair → Type 0
HasRoomAtEnds m stars e = (v : ℕ) → is_end e v ≡ true → m ≤ spare_at stars v

-- at no vertex has more room than so much gone
abbrev pub LosesRoom : ℕ → (old new : List Seen) → Type 0
LosesRoom m old new = (v : ℕ) → spare_at old v ≤ spare_at new v + m

-- the stars are as before but for their room, of which so much is still there where it was there
pub record HaveMoreRoom (m : ℕ) (old new : List Seen) : Type 0 where
  pub len : length new ≡ length old
  pub same : (v : ℕ) → star_at new v ≡ record (star_at old v) { spare = spare_at new v }
  pub room : (v : ℕ) → m ≤ spare_at old v → m ≤ spare_at new v

-- the subdivision is of the same points and has the same segments
pub record IsSameSubdivision (old new : Layout) : Type 0 where
  pub points : new.points ≡ old.points
  pub subdivision : IsSubdivision new
  pub state : layers new ≡ layers old
