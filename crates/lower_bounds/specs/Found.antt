-- The raised floor certificate, and what bound workers find from it. (This project's own.)
use Rattle.std.specs.Prelude.{◌≡◌, ℕ, ◌+◌, ◌<◌, ◌≤◌, List, length, slice_index_or}
use Rattle.std.specs.List.{sum_by}
use Rattle.plane.specs.declared.coordinates.Point.{Point}
use Rattle.cost_defs.specs.Costs.{Costed}
use Rattle.price_defs.specs.declared.row.Certificate.{Certificate}
use Rattle.price_defs.specs.declared.row.TheConstants.{MOST_DIVISOR}
use Rattle.price_defs.specs.Limits.{AreLight}
use Rattle.price_defs.specs.Loads.{IsValid, lost}
use Rattle.price_defs.specs.Raising.{IsRaisedFloor}
use Rattle.price_defs.specs.Tight.{IsTight}
use Rattle.search_defs.specs.Best.{IsPricedBy}
use Rattle.lower_bounds.specs.declared.bests.Search.{Search}

-- the raised floor certificate, fit to be priced
pub record IsFirst (S : List Point) (D : List Costed) (C : Certificate) : Type 0 where
  pub raised : IsRaisedFloor S D C.q C.rows
  pub valid : IsValid S D C.q C.rows
  pub tight : IsTight S D C.q C.rows
  pub divisor : C.q ≡ 2
  pub takers : sum_by lost C.rows ≡ 0
  pub light : AreLight C.rows

-- divisor and weights are within the limits
pub record IsWithin (C : Certificate) : Type 0 where
  pub divisor : C.q ≤ MOST_DIVISOR
  pub light : AreLight C.rows

-- what bound worker b finds from the first certificate
pub record IsFoundBy (S : List Point) (D : List Costed) (first : Certificate) (search : Search) (b : ℕ) (C : Certificate) : Type 0 where
  pub priced : IsPricedBy S D first search.rounds search.seed (100 + b) C
  pub valid : IsValid S D C.q C.rows
  pub within : IsWithin C

-- what all of them found, in their order
pub record AreFound (S : List Point) (D : List Costed) (first : Certificate) (search : Search) (found : List Certificate) : Type 0 where
  pub count : length found ≡ search.workers
  pub each : (k : ℕ) (d : Certificate) → k < search.workers → IsFoundBy S D first search (1 + k) (slice_index_or found k d)
