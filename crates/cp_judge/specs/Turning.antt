-- For private clauses.
-- The ends of the segments of a list, each with the point that it is at.
use Rattle.std.specs.Prelude.{◌≡◌, ℕ, List}
use Rattle.std.specs.List.{All, Contains}
use Rattle.plane.specs.declared.segment.Pair.{Pair}
use Rattle.partition_defs.specs.Partition.{Joins}
use Rattle.cp_judge.specs.declared.turning.End.{End}

-- each of the ends is an end of some segment
abbrev pub AreEndsOf : List Pair → List End → Type 0
AreEndsOf K Z = All (λ z. Joins K z.at z.to) Z

-- some end at p leads to r
abbrev pub IsTarget : List End → (p r : ℕ) → Type 0
IsTarget Z p r = (z : End) × Contains Z z × (z.at ≡ p) × (z.to ≡ r)
