-- Points that lie in line with two different points lie in line with each other.
use Rattle.std.proofs.Common.{◌≡◌, ◌≢◌, ◌<◌, ◌≤◌, ℕ, List, length, ℤ, pos, ◌-ℤ◌, ◌*ℤ◌, arith, ◌∙◌, ap}
use Rattle.std.proofs.lemmas.Int.{ints}
use Rattle.plane.specs.declared.coordinates.Point.{Point}
use Rattle.plane.specs.Geometry.{point, area, orientation}
use Rattle.plane.specs.Accepted.{AreApart, AreOnOneLine}
use Rattle.number_laws.proofs.Products.{mul_sub}
use Rattle.number_laws.proofs.Crosses.{parallel}

between_steps : (dx dy ax ay px py qx qy : ℤ) → dx *ℤ (py -ℤ ay) -ℤ dy *ℤ (px -ℤ ax) ≡ pos 0 → dx *ℤ (qy -ℤ ay) -ℤ dy *ℤ (qx -ℤ ax) ≡ pos 0 → dx *ℤ (qy -ℤ py) -ℤ dy *ℤ (qx -ℤ px) ≡ pos 0
between_steps dx dy ax ay px py qx qy hp hq =
    omega (arith, ints, mul_sub dx py ay, mul_sub dy px ax, mul_sub dx qy ay, mul_sub dy qx ax, mul_sub dx qy py, mul_sub dy qx px)

equal_ends : (a b : ℤ) → b -ℤ a ≡ pos 0 → a ≡ b
equal_ends a b h = omega (arith, ints)

pub same_point : (a b : Point) → a.x ≡ b.x → a.y ≡ b.y → a ≡ b
same_point a b hx hy = ap (λ (x : ℤ). let p : Point = record { x = x; y = a.y } in p) hx ∙ ap (λ (y : ℤ). let p : Point = record { x = b.x; y = y } in p) hy

pub collinear : (a b p q r : Point) → a ≢ b → area a b p ≡ pos 0 → area a b q ≡ pos 0 → area a b r ≡ pos 0 → area p q r ≡ pos 0
unfolding area
collinear a b p q r apart hp hq hr =
    parallel (b.x -ℤ a.x) (b.y -ℤ a.y) (q.x -ℤ p.x) (q.y -ℤ p.y) (r.x -ℤ p.x) (r.y -ℤ p.y)
    (λ d. apart (same_point a b (equal_ends a.x b.x d.0) (equal_ends a.y b.y d.1)))
    (between_steps (b.x -ℤ a.x) (b.y -ℤ a.y) a.x a.y p.x p.y q.x q.y hp hq)
    (between_steps (b.x -ℤ a.x) (b.y -ℤ a.y) a.x a.y p.x p.y r.x r.y hp hr)

-- where every point is in line with the first two, all are in line
pub on_one_line : (S : List Point) → 2 ≤ length S → AreApart S → ((k : ℕ) → k < length S → orientation S 0 1 k ≡ pos 0) → AreOnOneLine S
on_one_line S few apart on p q r hp hq hr =
    collinear (point S 0) (point S 1) (point S p) (point S q) (point S r) (apart 0 1 (omega arith) (omega arith)) (on p hp) (on q hq) (on r hr)
