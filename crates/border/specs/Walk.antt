-- For private clauses.
-- A walk along one half of the border: the points are as they are, or turned by half a turn.
use Rattle.std.specs.Prelude.{◌≡◌, ◌≢◌, ℕ, ◌+◌, ◌<◌, Bool, true, false, List, length, neg_ℤ, [], ◌∷◌, ◌++◌}
use Rattle.plane.specs.declared.coordinates.Point.{Point}
use Rattle.plane.specs.declared.coordinates.Turn.TheVariants.{Left}
use Rattle.plane.specs.Geometry.{point}
use Rattle.plane.specs.Hull.{IsBorderStep}
use Rattle.plane_laws.specs.Order.{IsBefore}
use Rattle.border.specs.Cycle.{at}

abbrev pub turned : Bool → Point → Point
turned true p = p
turned false p = record { x = neg_ℤ p.x; y = neg_ℤ p.y }

abbrev pub seen : List Point → Bool → ℕ → Point
seen S b i = turned b (point S i)

-- from comes before all others, and to after them
pub record AreFirstAndLast (S : List Point) (b : Bool) (from to : ℕ) : Type 0 where
  pub from_in : from < length S
  pub to_in : to < length S
  pub first : (k : ℕ) → k < length S → k ≢ from → IsBefore (seen S b from) (seen S b k)
  pub last : (k : ℕ) → k < length S → k ≢ to → IsBefore (seen S b k) (seen S b to)

-- the list begins with from, and each point is followed by the next one on the border, which comes after it
pub record IsTrail (S : List Point) (b : Bool) (from : ℕ) (D : List ℕ) : Type 0 where
  pub begins : at D 0 ≡ from
  pub steps : (j : ℕ) → j + 1 < length D → IsBorderStep S Left (at D j) (at D (j + 1))
  pub rises : (j : ℕ) → j + 1 < length D → IsBefore (seen S b (at D j)) (seen S b (at D (j + 1)))

-- the list has grown by the border points from the one end up to the other, which isn't in it
abbrev pub HasWalked : List Point → Bool → (from to : ℕ) → (old new : List ℕ) → Type 0
HasWalked S b from to old new = (C : List ℕ) × (0 < length C) × (new ≡ old ++ C) × IsTrail S b from (C ++ to ∷ [])
