-- Two clear pairs at a point don't point one way.
use Rattle.std.proofs.Common.{◌≡◌, ◌≢◌, ℕ, ◌<◌, List, length, ℤ, pos, ◌+ℤ◌, ◌-ℤ◌, ◌*ℤ◌, neg_ℤ, ◌<ℤ◌, inl, inr, arith, sym}
use Rattle.std.proofs.lemmas.Int.{ints}
use Rattle.plane.specs.declared.coordinates.Point.{Point}
use Rattle.plane.specs.Geometry.{point, area, scalar, LiesBetween, AreOpposite, IsClear}
use Rattle.plane.specs.Accepted.{AreAccepted}
use Rattle.number_laws.proofs.Products.{neg_mul_neg}
use Rattle.number_laws.proofs.Signs.{positive_positive, positive_negative, negative_positive, zero_left, zero_right}
use Rattle.plane.proofs.laws.Area.{area_back}
use Rattle.plane.proofs.laws.Along.{one_between}
use Rattle.plane.proofs.laws.Border.{points_differ}
use Rattle.plane.proofs.laws.Opposite.{opposite_steps}
use Rattle.star.specs.Turn.{AreInOneHalf, PointTogether}
use Rattle.star.proofs.laws.Turning.{Up, up, down}

-- two steps up aren't opposite
not_opposed_up : (ux uy rx ry : ℤ) → Up ux uy → Up rx ry → ux *ℤ ry -ℤ uy *ℤ rx ≡ pos 0 → ¬ ((ux *ℤ rx +ℤ uy *ℤ ry) <ℤ pos 0)
not_opposed_up ux uy rx ry hu hr line away = elim (opposite_steps ux uy rx ry line away) [
  | inl o ↦ across o hu hr
  | inr (a, b, o) ↦ upward hu hr o
]
  where
    upward : Up ux uy → Up rx ry → AreOpposite uy ry → ⊥
    upward (inl a) (inl b) (inl o) = omega (arith, ints, o.0)
    upward (inl a) (inl b) (inr o) = omega (arith, ints, o.1)
    upward (inl a) (inr b) (inl o) = omega (arith, ints, o.0)
    upward (inl a) (inr b) (inr o) = omega (arith, ints, o.1, b.0)
    upward (inr a) b (inl o) = omega (arith, ints, o.0, a.0)
    upward (inr a) b (inr o) = omega (arith, ints, o.0, a.0)

    across : AreOpposite ux rx → Up ux uy → Up rx ry → ⊥
    across (inl o) (inr a) b = omega (arith, ints, o.0, a.1)
    across (inl o) (inl a) (inl b) = let p = negative_positive ux ry o.0 b in let q = positive_positive uy rx a o.1 in omega (arith, ints)
    across (inl o) (inl a) (inr b) = let p = zero_right ux ry b.0 in let q = positive_positive uy rx a o.1 in omega (arith, ints)
    across (inr o) a (inr b) = omega (arith, ints, o.1, b.1)
    across (inr o) (inl a) (inl b) = let p = positive_positive ux ry o.0 b in let q = positive_negative uy rx a o.1 in omega (arith, ints)
    across (inr o) (inr a) (inl b) = let p = positive_positive ux ry o.0 b in let q = zero_left uy rx a.0 in omega (arith, ints)

-- a point doesn't lie between two points in one half of the directions from it
pub not_opposed : (c q r : Point) → AreInOneHalf c q r → ¬ LiesBetween c q r
unfolding area scalar
not_opposed c q r (inl h) (line, away) =
    not_opposed_up (q.x -ℤ c.x) (q.y -ℤ c.y) (r.x -ℤ c.x) (r.y -ℤ c.y) (up c q h.0) (up c r h.1) (let e = area_back c q r in omega (arith, ints, e, line)) away
not_opposed c q r (inr h) (line, away) =
    let a = neg_mul_neg (q.x -ℤ c.x) (r.y -ℤ c.y) in let b = neg_mul_neg (q.y -ℤ c.y) (r.x -ℤ c.x) in
    let x = neg_mul_neg (q.x -ℤ c.x) (r.x -ℤ c.x) in let y = neg_mul_neg (q.y -ℤ c.y) (r.y -ℤ c.y) in
    not_opposed_up (neg_ℤ (q.x -ℤ c.x)) (neg_ℤ (q.y -ℤ c.y)) (neg_ℤ (r.x -ℤ c.x)) (neg_ℤ (r.y -ℤ c.y)) (down c q h.0) (down c r h.1)
    (let e = area_back c q r in omega (arith, ints, e, line)) (omega (arith, ints, away))

-- two clear pairs at v have different directions
pub directions_differ : (S : List Point) (v x y : ℕ) → AreAccepted S → v < length S → x < length S → y < length S → x ≢ v → y ≢ v → x ≢ y → IsClear S v x → IsClear S v y → ¬ PointTogether (point S v) (point S x) (point S y)
directions_differ S v x y accepted hv hx hy vx vy xy cx cy (half, line) =
    elim (one_between (point S v) (point S x) (point S y)
    (points_differ S v x accepted.apart hv hx (λ e. vx (sym e))) (points_differ S v y accepted.apart hv hy (λ e. vy (sym e))) (points_differ S x y accepted.apart hx hy xy) line) [
      | inl h ↦ not_opposed (point S v) (point S x) (point S y) half h
      | inr rest ↦ elim rest [ inl h ↦ cy x hx h | inr h ↦ cx y hy h ]
    ]
