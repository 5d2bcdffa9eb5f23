-- Ascending lists of pairs: by the smaller end, then by the larger.
use Rattle.std.specs.Prelude.{◌≡◌, ◌<◌, ◌⊎◌, List}
use Rattle.std.specs.List.{AllPairs}
use Rattle.plane.specs.declared.segment.Pair.{Pair}

abbrev pub ComesFirst : (e f : Pair) → Type 0
ComesFirst e f = (e.lo < f.lo) ⊎ ((e.lo ≡ f.lo) × (e.hi < f.hi))

-- each pair comes before all later ones, so none stands twice
abbrev pub IsAscending : List Pair → Type 0
IsAscending K = AllPairs ComesFirst K
