-- All segments of n points, ascending.
use Rattle.std.specs.Prelude.{ℕ, zero, suc, ◌+◌, List, [], ◌∷◌, ◌++◌}
use Rattle.plane.specs.declared.segment.Pair.{Pair}
use Rattle.subdivision.specs.Rising.{rises}

-- the segment from v to v + 1 + j
abbrev pub upward : (v j : ℕ) → Pair
upward v j = record { lo = v; hi = v + 1 + j; ordered = rises v j }

-- the segments from v to the m points that begin with v + 1 + j
abbrev pub row : (v j m : ℕ) → List Pair
row v j zero = []
row v j (suc m) = upward v j ∷ row v (suc j) m

-- the segments of the m points that begin with v
abbrev pub rows : (v m : ℕ) → List Pair
rows v zero = []
rows v (suc m) = row v 0 m ++ rows (suc v) m

abbrev pub every_pair : ℕ → List Pair
every_pair n = rows 0 n
