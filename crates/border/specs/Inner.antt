-- Which points are in no border pair. (Textbook.)
use Rattle.std.specs.Prelude.{◌≡◌, ℕ, ◌<◌, ◌↔◌, List, length, slice_index_or, Bool, false, IsTrue}
use Rattle.plane.specs.declared.coordinates.Point.{Point}
use Rattle.plane.specs.Geometry.{IsInner}

-- the mark at v
abbrev pub mark : List Bool → ℕ → Bool
mark M v = slice_index_or M v false

-- there is a mark for each point, and it is set for the inner points alone
pub record AreInnerMarks (S : List Point) (M : List Bool) : Type 0 where
  pub count : length M ≡ length S
  pub each : (v : ℕ) → v < length S → IsTrue (mark M v) ↔ IsInner S v
