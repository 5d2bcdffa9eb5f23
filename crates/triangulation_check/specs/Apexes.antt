-- For private clauses.
-- What a set of segments lacks to be a triangulation, where it is a convex partition.
use Rattle.std.specs.Prelude.{ℕ, ◌<◌, List, length}
use Rattle.plane.specs.declared.coordinates.Point.{Point}
use Rattle.plane.specs.declared.segment.Pair.{Pair}
use Rattle.partition_defs.specs.Partition.{Joins}
use Rattle.partition_defs.specs.Triangulation.{IsApex, HasLeft}

-- the point is in some pair
abbrev pub IsJoined : List Pair → ℕ → Type 0
IsJoined K p = (q : ℕ) × Joins K p q

abbrev pub AreAllJoined : List Point → List Pair → Type 0
AreAllJoined S K = (p : ℕ) → p < length S → IsJoined K p

-- p to q has an apex
abbrev pub HasApex : List Point → List Pair → (p q : ℕ) → Type 0
HasApex S K p q = (r : ℕ) × IsApex S K p q r

-- the same where some point is left of p to q
abbrev pub HasApexWhereLeft : List Point → List Pair → (p q : ℕ) → Type 0
HasApexWhereLeft S K p q = HasLeft S p q → HasApex S K p q

abbrev pub HaveApexes : List Point → List Pair → Type 0
HaveApexes S K = (p q : ℕ) → Joins K p q → HasApexWhereLeft S K p q
