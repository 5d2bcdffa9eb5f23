-- For private clauses.
-- Words of the making of a point set.
use Rattle.std.specs.Prelude.{◌≡◌, ℕ, ◌<◌, List, length, Option, Some, None}
use Rattle.plane.specs.declared.coordinates.Point.{Point}
use Rattle.plane.specs.Geometry.{point}

-- the least index after i of a point equal to that at i, or none
abbrev pub IsNextEqual : List Point → ℕ → Option ℕ → Type 0
IsNextEqual S i None = (l : ℕ) → i < l → l < length S → ¬ (point S i ≡ point S l)
IsNextEqual S i (Some j) = (i < j) × (j < length S) × (point S i ≡ point S j) × ((l : ℕ) → i < l → l < j → ¬ (point S i ≡ point S l))
