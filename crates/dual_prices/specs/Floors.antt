-- For private clauses.
-- The floor certificate, point by point.
use Rattle.std.specs.Prelude.{◌≡◌, ◌≢◌, ◌↔◌, ℕ, ◌<◌, ◌≤◌, List, length, ◌++◌, Option, Some, None}
use Rattle.std.specs.List.{All, AllPairs, AllZip, Contains, flat_map, sum_by}
use Rattle.plane.specs.declared.coordinates.Point.{Point}
use Rattle.plane.specs.Geometry.{IsClear, IsInner}
use Rattle.cost_defs.specs.Costs.{Costed, cost}
use Rattle.price_defs.specs.declared.row.Row.{Row}
use Rattle.price_defs.specs.Rows.{weight}
use Rattle.price_defs.specs.Loads.{lost}
use Rattle.price_defs.specs.Floor.{AreFloorRowsAt}

-- the least cost of a clear pair of p and a point below k, or none where there is no such pair
abbrev pub IsLeastCostBelow : List Point → List Costed → (p k : ℕ) → Option ℕ → Type 0
IsLeastCostBelow S D p k None = (r : ℕ) → r < k → r ≢ p → ¬ IsClear S p r
IsLeastCostBelow S D p k (Some m) =
    ((r : ℕ) × (r < length S) × (r ≢ p) × IsClear S p r × (cost D p r ≡ m)) × ((r : ℕ) → r < k → r ≢ p → IsClear S p r → m ≤ cost D p r)

-- the inner points below k, ascending
pub record IsInnerListBelow (S : List Point) (k : ℕ) (ps : List ℕ) : Type 0 where
  pub ascending : AllPairs (λ p q. p < q) ps
  pub exact : (p : ℕ) → Contains ps p ↔ ((p < k) × IsInner S p)

-- the floor certificate's rows at the inner points below k
pub record AreFloorRowsBelow (S : List Point) (D : List Costed) (k : ℕ) (rows : List Row) : Type 0 where
  pub ps : List ℕ
  pub parts : List (List Row)
  pub inner : IsInnerListBelow S k ps
  pub each : AllZip (AreFloorRowsAt S D) ps parts
  pub joined : rows ≡ flat_map (λ part. part) parts
  pub light : All (λ row. weight row ≤ 1000) rows
  pub takers : sum_by lost rows ≡ 0

-- the list has got the floor certificate's rows at p
pub record HasFloorRowsAt (S : List Point) (D : List Costed) (p : ℕ) (old new : List Row) : Type 0 where
  pub part : List Row
  pub rows : AreFloorRowsAt S D p part
  pub added : new ≡ old ++ part
  pub light : All (λ row. weight row ≤ 1000) part
  pub takers : sum_by lost part ≡ 0
