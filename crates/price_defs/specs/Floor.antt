-- The floor, and the certificate that shows it. (This project's own.)
use Rattle.std.specs.Prelude.{◌≡◌, ◌≢◌, ◌↔◌, ℕ, ◌+◌, ◌*◌, ◌<◌, ◌≤◌, ◌⊎◌, List, [], ◌∷◌, length}
use Rattle.std.specs.Int.{div_ceil}
use Rattle.std.specs.List.{AllPairs, AllZip, Contains, flat_map, sum}
use Rattle.plane.specs.declared.coordinates.Point.{Point}
use Rattle.plane.specs.First.{IsFirstPair}
use Rattle.plane.specs.Geometry.{IsBetween, IsClear, IsInner}
use Rattle.price_defs.specs.declared.row.Row.{Row}
use Rattle.price_defs.specs.declared.row.Row.TheVariants.{Half, Three}
use Rattle.cost_defs.specs.Costs.{Costed, cost}
use Rattle.price_defs.specs.Rows.{IsAlone}

-- the inner points, ascending
pub record IsInnerList (S : List Point) (ps : List ℕ) : Type 0 where
  pub ascending : AllPairs (λ p q. p < q) ps
  pub exact : (p : ℕ) → Contains ps p ↔ ((p < length S) × IsInner S p)

-- m is the least cost of a clear pair with end p
pub record IsLeastCost (S : List Point) (D : List Costed) (p m : ℕ) : Type 0 where
  pub r : ℕ
  pub within : r < length S
  pub apart : r ≢ p
  pub clear : IsClear S p r
  pub is : cost D p r ≡ m
  pub least : (s : ℕ) → s < length S → s ≢ p → IsClear S p s → m ≤ cost D p s

-- what an inner point adds to twice the floor: three or two times its least cost
abbrev pub IsShare : List Point → List Costed → (p s : ℕ) → Type 0
IsShare S D p s = (m : ℕ) × IsLeastCost S D p m × ((IsAlone S p × (s ≡ 3 * m)) ⊎ (¬ IsAlone S p × (s ≡ 2 * m)))

-- the floor, where the border pairs cost h
abbrev pub IsFloor : List Point → List Costed → (h f : ℕ) → Type 0
IsFloor S D h f = (ps : List ℕ) × (shares : List ℕ) × IsInnerList S ps × AllZip (IsShare S D) ps shares × (f ≡ h + div_ceil (sum shares) 2)

-- the rows of the floor certificate at an inner point
abbrev pub AreFloorRowsAt : List Point → List Costed → ℕ → List Row → Type 0
AreFloorRowsAt S D p rows =
    (m : ℕ) × IsLeastCost S D p m
    × ((IsAlone S p × (rows ≡ Three p m ∷ []))
    ⊎ ((q r : ℕ) × IsFirstPair (λ i j. IsBetween S p i j) (length S) q r × (rows ≡ Half p q m ∷ Half p r m ∷ [])))

-- the floor certificate
abbrev pub IsFloorCertificate : List Point → List Costed → ℕ → List Row → Type 0
IsFloorCertificate S D q rows =
    (ps : List ℕ) × (parts : List (List Row)) × IsInnerList S ps × AllZip (AreFloorRowsAt S D) ps parts × (q ≡ 2) × (rows ≡ flat_map (λ part. part) parts)
