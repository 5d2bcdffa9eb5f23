-- Sets of pairs as ascending lists: one put in, one taken out; and what two sets have in common.
use Rattle.std.specs.Prelude.{ℕ, ◌↔◌, Bool, ◌&&◌, ◌||◌, not, nat_eq, nat_lt, List, ◌∷◌, ◌++◌, filter}
use Rattle.std.specs.List.{Contains}
use Rattle.plane.specs.declared.coordinates.Point.{Point}
use Rattle.plane.specs.declared.segment.Pair.{Pair}
use Rattle.partition_defs.specs.Partition.{Joins, IsConvexPartition}

-- whether two pairs have the same ends
abbrev pub is_same : (e f : Pair) → Bool
is_same e f = nat_eq e.lo f.lo && nat_eq e.hi f.hi

-- whether e comes before f: by the smaller end, then by the larger
abbrev pub precedes : (e f : Pair) → Bool
precedes e f = nat_lt e.lo f.lo || (nat_eq e.lo f.lo && nat_lt e.hi f.hi)

-- the set without e
unfoldable pub without : Pair → List Pair → List Pair
without e K = filter (λ f. not (is_same f e)) K

-- the set with e, at its place
unfoldable pub with_one : Pair → List Pair → List Pair
with_one e K = filter (λ f. precedes f e) K ++ e ∷ filter (λ f. precedes e f) K

-- each pair of K is in T
abbrev pub AreAmong : (K T : List Pair) → Type 0
AreAmong K T = (i j : ℕ) → Joins K i j → Joins T i j

-- the two lists have the same pairs
abbrev pub AreSame : (T U : List Pair) → Type 0
AreSame T U = (i j : ℕ) → Joins T i j ↔ Joins U i j

-- no pair of a convex partition can go
abbrev pub IsMinimal : List Point → List Pair → Type 0
IsMinimal S K = (e : Pair) → Contains K e → ¬ IsConvexPartition S (without e K)
