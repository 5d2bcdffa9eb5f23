-- For private clauses.
-- The ends of the segments of a list, by the point that they are at.
use Rattle.std.specs.Prelude.{◌≡◌, ℕ, ◌<◌, List, length, pos, ◌<ℤ◌}
use Rattle.std.specs.List.{Contains}
use Rattle.std.specs.List.Sorted.{IsNonDecreasingBy}
use Rattle.plane.specs.declared.coordinates.Point.{Point}
use Rattle.plane.specs.declared.segment.Pair.{Pair}
use Rattle.plane.specs.Geometry.{orientation}
use Rattle.partition_defs.specs.Partition.{Joins}
use Rattle.triangulation_check.specs.declared.ends.End.{End}

-- Z has both ends of each segment, and no others
pub record HasEndsOf (K : List Pair) (Z : List End) : Type 0 where
  pub sound : (z : End) → Contains Z z → Joins K z.at z.to
  pub whole : (p q : ℕ) → Joins K p q → Contains Z (record { at = p; to = q })

-- and they stand by the points that they are at
pub record AreEndsOf (K : List Pair) (Z : List End) : Type 0 where
  pub ends : HasEndsOf K Z
  pub order : IsNonDecreasingBy (λ (z : End). z.at) Z

-- R has the ends of Z at p, and no others
pub record IsRunOf (Z R : List End) (p : ℕ) : Type 0 where
  pub sound : (z : End) → Contains R z → Contains Z z × (z.at ≡ p)
  pub whole : (z : End) → Contains Z z → z.at ≡ p → Contains R z

-- some end leads to r
abbrev pub LeadsTo : List End → ℕ → Type 0
LeadsTo R r = (z : End) × Contains R z × (z.to ≡ r)

-- all ends lead to points
abbrev pub LeadWithin : List Point → List End → Type 0
LeadWithin S R = (z : End) → Contains R z → z.to < length S

-- some end leads to r, which is left of p to q
abbrev pub IsLeftEnd : List Point → List End → (p q r : ℕ) → Type 0
IsLeftEnd S R p q r = (r < length S) × LeadsTo R r × (pos 0 <ℤ orientation S p q r)

-- s is seen from p between q and r
abbrev pub IsAmid : List Point → (p q r s : ℕ) → Type 0
IsAmid S p q r s = (pos 0 <ℤ orientation S p q s) × (pos 0 <ℤ orientation S p s r)

-- no end leads to a point between q and r
abbrev pub HasNoneAmid : List Point → List End → (p q r : ℕ) → Type 0
HasNoneAmid S R p q r = (z : End) → Contains R z → ¬ IsAmid S p q r z.to
