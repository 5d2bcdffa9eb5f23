-- The corner of a box that is furthest right of a line.
use Rattle.std.proofs.Common.{◌≡◌, ℤ, pos, ◌⊎◌, inl, inr, ◌-ℤ◌, ◌*ℤ◌, neg_ℤ, ◌≤ℤ◌, arith}
use Rattle.std.proofs.lemmas.Int.{ints}
use Rattle.number_laws.proofs.Products.{neg_mul, mul_sub}
use Rattle.number_laws.proofs.Signs.{mul_weak}
use Rattle.plane.specs.declared.coordinates.Point.{Point}
use Rattle.plane.specs.Geometry.{area}
use Rattle.boxes.specs.declared.bounds.Bounds.{Bounds}
use Rattle.boxes.specs.Corners.{IsRightmost}

-- a product rises with its second factor where the first isn't negative, and falls where it isn't positive
product_rises : (m a z : ℤ) → ((pos 0 ≤ℤ m) × (a ≤ℤ z)) ⊎ ((m ≤ℤ pos 0) × (z ≤ℤ a)) → (m *ℤ a) ≤ℤ (m *ℤ z)
product_rises m a z (inl h) = let e = mul_weak m (z -ℤ a) h.0 (omega (arith, ints, h.1)) in let f = mul_sub m z a in omega (arith, ints)
product_rises m a z (inr h) =
    let e = mul_weak (neg_ℤ m) (a -ℤ z) (omega (arith, ints, h.0)) (omega (arith, ints, h.1)) in
    let f = neg_mul m (a -ℤ z) in let g = mul_sub m a z in omega (arith, ints)

pub is_rightmost : (b : Bounds) (p q r : Point) (x y : ℤ) → r.x ≡ x → r.y ≡ y
    → ((p.y ≤ℤ q.y) × (x ≡ b.high.x)) ⊎ ((q.y ≤ℤ p.y) × (x ≡ b.low.x))
    → ((p.x ≤ℤ q.x) × (y ≡ b.low.y)) ⊎ ((q.x ≤ℤ p.x) × (y ≡ b.high.y)) → IsRightmost b p q r
unfolding area
is_rightmost b p q r x y ex ey hx hy s h =
    let across : ((q.y -ℤ p.y) *ℤ (s.x -ℤ p.x)) ≤ℤ ((q.y -ℤ p.y) *ℤ (r.x -ℤ p.x)) = product_rises (q.y -ℤ p.y) (s.x -ℤ p.x) (r.x -ℤ p.x) (elim hx [
      | inl e ↦ inl (omega (arith, ints, e.0), omega (arith, ints, e.1, h.1))
      | inr e ↦ inr (omega (arith, ints, e.0), omega (arith, ints, e.1, h.0))
    ]) in
    let upward : ((q.x -ℤ p.x) *ℤ (r.y -ℤ p.y)) ≤ℤ ((q.x -ℤ p.x) *ℤ (s.y -ℤ p.y)) = product_rises (q.x -ℤ p.x) (r.y -ℤ p.y) (s.y -ℤ p.y) (elim hy [
      | inl e ↦ inl (omega (arith, ints, e.0), omega (arith, ints, e.1, h.2))
      | inr e ↦ inr (omega (arith, ints, e.0), omega (arith, ints, e.1, h.3))
    ]) in
    omega (arith, ints)
