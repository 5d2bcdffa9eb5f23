-- The lower bound that a run shows. (This project's own.)
use Rattle.std.specs.Prelude.{◌≡◌, ℕ, ◌≤◌, List}
use Rattle.plane.specs.declared.coordinates.Point.{Point}
use Rattle.plane.specs.declared.segment.Pair.{Pair}
use Rattle.partition_defs.specs.Triangulation.{IsBorderList}
use Rattle.cost_defs.specs.Costs.{Costed, total}
use Rattle.price_defs.specs.Limits.{AreLight}
use Rattle.price_defs.specs.declared.row.TheConstants.{MOST_DIVISOR}
use Rattle.search_defs.specs.Best.{IsBest}
use Rattle.solve_defs.specs.Solved.{IsBound}
use Rattle.lower_bounds.specs.declared.bests.Search.{Search}
use Rattle.lower_bounds.specs.declared.bounding.LowerBound.{LowerBound}
use Rattle.lower_bounds.specs.declared.bounding.Basis.{Basis}
use Rattle.lower_bounds.specs.Found.{IsFirst}

-- what the border pairs cost
pub record IsBase (S : List Point) (D : List Costed) (h : ℕ) : Type 0 where
  pub pairs : List Pair
  pub list : IsBorderList S pairs
  pub is : h ≡ total D pairs
  pub small : h ≤ 15000000

-- what a run shows before its workers begin
pub record IsBasis (S : List Point) (D : List Costed) (basis : Basis) : Type 0 where
  pub border : IsBase S D basis.border
  pub first : IsFirst S D basis.first

-- the best certificate, with the bound that it shows
pub record IsLowerBound (S : List Point) (D : List Costed) (search : Search) (found : LowerBound) : Type 0 where
  pub best : IsBest S D search.workers search.rounds search.seed found.certificate
  pub bound : IsBound S D found.certificate found.bound
  pub divisor : found.certificate.q ≤ MOST_DIVISOR
  pub light : AreLight found.certificate.rows
