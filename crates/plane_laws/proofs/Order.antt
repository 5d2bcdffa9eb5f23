-- The order of points by x, then by y, is strict.
use Rattle.std.proofs.Common.{inl, inr, arith, ◌∙◌}
use Rattle.std.proofs.lemmas.Int.{ints}
use Rattle.plane.specs.declared.coordinates.Point.{Point}
use Rattle.plane_laws.specs.Order.{IsBefore}

pub before_trans : (p q r : Point) → IsBefore p q → IsBefore q r → IsBefore p r
before_trans p q r (inl g) (inl h) = inl (omega (arith, ints))
before_trans p q r (inl g) (inr h) = inl (omega (arith, ints, h.0))
before_trans p q r (inr g) (inl h) = inl (omega (arith, ints, g.0))
before_trans p q r (inr g) (inr h) = inr (g.0 ∙ h.0, omega (arith, ints, g.1, h.1))

pub before_asym : (p q : Point) → IsBefore p q → IsBefore q p → ⊥
before_asym p q (inl g) (inl h) = omega (arith, ints)
before_asym p q (inl g) (inr h) = omega (arith, ints, h.0)
before_asym p q (inr g) (inl h) = omega (arith, ints, g.0)
before_asym p q (inr g) (inr h) = omega (arith, ints, g.1, h.1)
