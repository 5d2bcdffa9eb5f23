-- For private clauses.
-- The answer to edits that are given.
use Rattle.std.specs.Prelude.{◌≡◌, ℕ, true, List, ◌∷◌, Option, Some, None}
use Rattle.plane.specs.declared.coordinates.Point.{Point}
use Rattle.plane.specs.declared.segment.Pair.{Pair}
use Rattle.partition_defs.specs.Partition.{HasEnds}
use Rattle.star.specs.Stars.{Seen}
use Rattle.cost_defs.specs.Costs.{Costed}
use Rattle.journal_defs.specs.declared.edit.Edit.{Edit}
use Rattle.journal_defs.specs.declared.edit.Edit.TheVariants.{Flip}
use Rattle.journal_defs.specs.Table.{ShowsApex}
use Rattle.edit.specs.Plans.{Planned}
use Rattle.planner.specs.Steps.{AreMarks}
use Rattle.plan_defs.specs.Plans.{Sight, has_look, star_in, AreFitting, IsAcross, IsPlanOf}

-- the plan of the edits where they fit the region, and none exactly where they don't
abbrev pub IsAnswer : List Point → List Costed → List Sight → List Edit → Option Planned → Type 0
IsAnswer S D R es None = ¬ AreFitting S D R es
IsAnswer S D R es (Some p) = AreFitting S D R es × IsPlanOf R es p

-- both ends of the pair were looked at
abbrev pub HasEndsLooked : List Sight → Pair → Type 0
HasEndsLooked R e = (has_look R e.lo ≡ true) × (has_look R e.hi ≡ true)

-- the pair of the apexes of e, whose ends were looked at, or none
abbrev pub IsAcrossOrNone : List Point → List Sight → Pair → Option Pair → Type 0
IsAcrossOrNone S R e None = HasEndsLooked R e → (f : Pair) → ¬ IsAcross S (star_in S R) e f
IsAcrossOrNone S R e (Some f) = IsAcross S (star_in S R) e f

-- the apex of p to q that a star shows, or none
abbrev pub IsShown : List Point → Seen → (p q : ℕ) → Option ℕ → Type 0
IsShown S s p q None = (r : ℕ) → ¬ ShowsApex S s p q r
IsShown S s p q (Some r) = ShowsApex S s p q r

-- the pair of two points, or none where one is lacking or they are one
abbrev pub IsPairOf : (near far : Option ℕ) → Option Pair → Type 0
IsPairOf near far None = (k l : ℕ) → near ≡ Some k → far ≡ Some l → k ≡ l
IsPairOf near far (Some f) = (k : ℕ) × (l : ℕ) × (near ≡ Some k) × (far ≡ Some l) × HasEnds f k l

-- a flip, and then edits of marks
abbrev pub IsFlipThen : (from to : Pair) → List Edit → Type 0
IsFlipThen from to es = (rest : List Edit) × (es ≡ Flip from to ∷ rest) × AreMarks rest
