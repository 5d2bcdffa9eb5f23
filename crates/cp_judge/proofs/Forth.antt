-- Steps forward in the order of the sweep, and turns among them.
use Rattle.std.proofs.Common.{◌≡◌, ℤ, pos, ◌-ℤ◌, neg_ℤ, ◌<ℤ◌, ◌≤ℤ◌, inl, inr, arith, subst, sym}
use Rattle.std.proofs.lemmas.Int.{ints}
use Rattle.plane.specs.declared.coordinates.Point.{Point}
use Rattle.plane.specs.declared.coordinates.Turn.{Turn}
use Rattle.plane.specs.declared.coordinates.Turn.TheVariants.{Left, Straight, Right}
use Rattle.plane.specs.Geometry.{area, scalar, LiesBetween}
use Rattle.number_laws.proofs.Products.{mul_differences}
use Rattle.number_laws.proofs.Crosses.{cross, cross_back}
use Rattle.plane.proofs.laws.Area.{area_back}
use Rattle.plane.proofs.laws.Opposite.{opposite_steps}
use Rattle.cp_judge.specs.Chains.{sided}
use Rattle.plane_laws.specs.Order.{IsBefore}
use Rattle.plane_laws.proofs.Steps.{Ahead, turn_weak}
use Rattle.plane_laws.proofs.Orientations.{ahead, area_steps, area_steps_before, area_steps_into}
use Rattle.plane_laws.proofs.Between.{area_is_cross}

-- the same on either side
sided_turn : (side : Turn) (ux uy vx vy wx wy : ℤ) → Ahead ux uy → Ahead vx vy → Ahead wx wy → pos 0 ≤ℤ sided side (cross ux uy vx vy) → pos 0 ≤ℤ sided side (cross vx vy wx wy)
    → pos 0 ≤ℤ sided side (cross ux uy wx wy)
sided_turn Left ux uy vx vy wx wy hu hv hw uv vw = turn_weak ux uy vx vy wx wy hu hv hw uv vw
sided_turn Straight ux uy vx vy wx wy hu hv hw uv vw = turn_weak ux uy vx vy wx wy hu hv hw uv vw
sided_turn Right ux uy vx vy wx wy hu hv hw uv vw =
    let a = cross_back ux uy vx vy in let b = cross_back vx vy wx wy in let c = cross_back ux uy wx wy in
    let t = turn_weak wx wy vx vy ux uy hw hv hu (omega (arith, ints)) (omega (arith, ints)) in
    omega (arith, ints)

amid_area : (a b v : Point) → area a b v ≡ neg_ℤ (cross (v.x -ℤ a.x) (v.y -ℤ a.y) (b.x -ℤ v.x) (b.y -ℤ v.y))
unfolding area
amid_area a b v = omega (arith, ints, mul_differences b.x a.x v.y a.y, mul_differences b.y a.y v.x a.x, mul_differences v.x a.x b.y v.y, mul_differences v.y a.y b.x v.x)

carry : (side : Turn) (y z : ℤ) → y ≡ z → pos 0 ≤ℤ sided side y → pos 0 ≤ℤ sided side z
carry side y z e h = subst (λ x. pos 0 ≤ℤ sided side x) e h

-- a chain that doesn't turn away from a later point at q doesn't either at p, nor the other way round
pub turn_later : (side : Turn) (p q r s : Point) → IsBefore p q → IsBefore q r → IsBefore q s → pos 0 ≤ℤ sided side (area p q r) → pos 0 ≤ℤ sided side (area q r s)
    → pos 0 ≤ℤ sided side (area p q s)
turn_later side p q r s pq qr qs bend seen =
    carry side _ _ (sym (area_steps p q s)) (sided_turn side _ _ _ _ _ _ (ahead p q pq) (ahead q r qr) (ahead q s qs) (carry side _ _ (area_steps p q r) bend) (carry side _ _ (area_is_cross q r s) seen))

pub turn_earlier : (side : Turn) (p q r s : Point) → IsBefore p q → IsBefore q r → IsBefore s q → pos 0 ≤ℤ sided side (area p q r) → pos 0 ≤ℤ sided side (area p q s)
    → pos 0 ≤ℤ sided side (area q r s)
turn_earlier side p q r s pq qr sq bend seen =
    carry side _ _ (sym (area_steps_before q r s)) (sided_turn side _ _ _ _ _ _ (ahead s q sq) (ahead p q pq) (ahead q r qr) (carry side _ _ (area_steps_into p q s) seen) (carry side _ _ (area_steps p q r) bend))

neither : (side : Turn) (z : ℤ) → pos 0 ≤ℤ sided side z → pos 0 <ℤ sided side (neg_ℤ z) → ⊥
neither Left z h k = omega (arith, ints)
neither Straight z h k = omega (arith, ints)
neither Right z h k = omega (arith, ints)

-- a point that stands strictly on this side of a-b, and amid them, sees not both on this side of a line forth
pub none_amid : (side : Turn) (a b v w : Point) → IsBefore a v → IsBefore v b → IsBefore v w → pos 0 <ℤ sided side (area a b v) → pos 0 ≤ℤ sided side (area v w a) → pos 0 ≤ℤ sided side (area v w b) → ⊥
none_amid side a b v w av vb vw strict at_a at_b =
    neither side _
    (sided_turn side _ _ _ _ _ _ (ahead a v av) (ahead v w vw) (ahead v b vb) (carry side _ _ (area_steps_before v w a) at_a) (carry side _ _ (area_is_cross v w b) at_b))
    (subst (λ z. pos 0 <ℤ sided side z) (amid_area a b v) strict)

-- what is between two points stands between them in the order too
pub between_order : (p q r : Point) → LiesBetween p q r → IsBefore q r → IsBefore q p × IsBefore p r
unfolding area scalar
between_order p q r on h = elim (opposite_steps (q.x -ℤ p.x) (q.y -ℤ p.y) (r.x -ℤ p.x) (r.y -ℤ p.y) (let e = area_back p q r in omega (arith, ints, on.0)) on.1) [
  | inl o ↦ elim o [
    | inl k ↦ (inl (omega (arith, ints, k.0)), inl (omega (arith, ints, k.1)))
    | inr k ↦ absurd (elim h [ inl l ↦ omega (arith, ints, k.0, k.1) | inr l ↦ omega (arith, ints, k.0, k.1, l.0) ])
  ]
  | inr o ↦ elim o.2 [
    | inl k ↦ (inr (omega (arith, ints, o.0), omega (arith, ints, k.0)), inr (omega (arith, ints, o.1), omega (arith, ints, k.1)))
    | inr k ↦ absurd (elim h [ inl l ↦ omega (arith, ints, o.0, o.1) | inr l ↦ omega (arith, ints, k.0, k.1, l.1) ])
  ]
]
