-- Boxes that grow by a point.
use Rattle.std.proofs.Common.{◌≡◌, ℕ, ◌≤◌, ℤ, arith}
use Rattle.std.specs.Prelude.{unsigned_abs}
use Rattle.std.specs.Int.{int_min, int_max}
use Rattle.std.proofs.lemmas.Int.{ints, clamps}
use Rattle.plane.specs.declared.coordinates.Point.{Point}
use Rattle.plane.specs.Accepted.{IsNear}
use Rattle.boxes.specs.declared.bounds.Bounds.{Bounds}
use Rattle.boxes.specs.Bounds.{IsWithin, IsLowerLeft, IsUpperRight, HasNearCorners}

min_small : (m a b : ℤ) (n : ℕ) → m ≡ int_min a b → unsigned_abs a ≤ n → unsigned_abs b ≤ n → unsigned_abs m ≤ n
min_small m a b n e ha hb = grind (arith, ints)

max_small : (m a b : ℤ) (n : ℕ) → m ≡ int_max a b → unsigned_abs a ≤ n → unsigned_abs b ≤ n → unsigned_abs m ≤ n
max_small m a b n e ha hb = grind (arith, ints)

pub corners_near : (b c : Bounds) (p : Point) → IsLowerLeft c.low b.low p → IsUpperRight c.high b.high p → HasNearCorners b → IsNear p → HasNearCorners c
corners_near b c p l u h n = (
  (min_small c.low.x b.low.x p.x _ l.0 h.0.0 n.0, min_small c.low.y b.low.y p.y _ l.1 h.0.1 n.1),
  (max_small c.high.x b.high.x p.x _ u.0 h.1.0 n.0, max_small c.high.y b.high.y p.y _ u.1 h.1.1 n.1),
)

pub has_added : (b c : Bounds) (p : Point) → IsLowerLeft c.low b.low p → IsUpperRight c.high b.high p → IsWithin c p
has_added b c p l u =
    let lx = l.0 in let ly = l.1 in let ux = u.0 in let uy = u.1 in
    (omega (arith, ints, clamps), omega (arith, ints, clamps), omega (arith, ints, clamps), omega (arith, ints, clamps))

pub has_kept : (b c : Bounds) (p q : Point) → IsLowerLeft c.low b.low p → IsUpperRight c.high b.high p → IsWithin b q → IsWithin c q
has_kept b c p q l u h =
    let lx = l.0 in let ly = l.1 in let ux = u.0 in let uy = u.1 in let h0 = h.0 in let h1 = h.1 in let h2 = h.2 in let h3 = h.3 in
    (omega (arith, ints, clamps), omega (arith, ints, clamps), omega (arith, ints, clamps), omega (arith, ints, clamps))
