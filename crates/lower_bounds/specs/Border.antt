-- For private clauses.
-- The border pairs of a list of segments.
use Rattle.std.specs.Prelude.{◌≡◌, ◌⊎◌, List, [], ◌∷◌}
use Rattle.plane.specs.declared.coordinates.Point.{Point}
use Rattle.plane.specs.declared.segment.Pair.{Pair}
use Rattle.plane.specs.Geometry.{IsBorderPair}

-- found are the border pairs among these, in their order
abbrev pub AreBorderAmong : List Point → (pairs found : List Pair) → Type 0
AreBorderAmong S [] found = found ≡ []
AreBorderAmong S (e ∷ pairs) found =
    (IsBorderPair S e.lo e.hi × ((rest : List Pair) × (found ≡ e ∷ rest) × AreBorderAmong S pairs rest)) ⊎ (¬ IsBorderPair S e.lo e.hi × AreBorderAmong S pairs found)
