-- For private clauses.
-- The cost of the border pairs, step by step along the border.
use Rattle.std.specs.Prelude.{◌≡◌, ℕ, ◌<◌, ◌≤◌, ◌*◌, List, length}
use Rattle.std.specs.List.{Contains}
use Rattle.plane.specs.declared.coordinates.Point.{Point}
use Rattle.plane.specs.declared.coordinates.Turn.TheVariants.{Left}
use Rattle.plane.specs.declared.segment.Pair.{Pair}
use Rattle.plane.specs.Hull.{IsBorderStep}
use Rattle.partition_defs.specs.Partition.{HasEnds, Joins}
use Rattle.partition_defs.specs.Triangulation.{AreDistinct}
use Rattle.cost_defs.specs.Costs.{Costed, total}

-- the pair is a step along the border from a point below k
pub record IsStepBelow (S : List Point) (k : ℕ) (e : Pair) : Type 0 where
  pub v : ℕ
  pub w : ℕ
  pub below : v < k
  pub ends : HasEnds e v w
  pub step : IsBorderStep S Left v w

-- the steps along the border from the points below k, and what they cost
pub record AreSteps (S : List Point) (D : List Costed) (k h : ℕ) : Type 0 where
  pub list : List Pair
  pub distinct : AreDistinct list
  pub within : (e : Pair) → Contains list e → e.hi < length S
  pub steps : (e : Pair) → Contains list e → IsStepBelow S k e
  pub all : (v w : ℕ) → v < k → IsBorderStep S Left v w → Joins list v w
  pub cost : h ≡ total D list
  pub small : h ≤ 1000 * k
