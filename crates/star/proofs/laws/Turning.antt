-- The order of directions round a centre is strict and total, and what it says of orientation.
use Rattle.std.proofs.Common.{◌≡◌, ◌≢◌, ℤ, pos, ◌-ℤ◌, neg_ℤ, ◌<ℤ◌, ◌≤ℤ◌, ◌⊎◌, inl, inr, arith}
use Rattle.std.proofs.lemmas.Int.{ints}
use Rattle.plane.specs.declared.coordinates.Point.{Point}
use Rattle.plane.specs.Geometry.{area}
use Rattle.number_laws.proofs.Signs.{negative_or, positive_positive, mul_weak, cancel_strict, zero_right}
use Rattle.number_laws.proofs.Crosses.{cross, neg_neg, three_upward}
use Rattle.plane.proofs.laws.Area.{area_swap}
use Rattle.plane.proofs.laws.Line.{same_point}
use Rattle.star.specs.Turn.{IsUpper, IsLower, AreInOneHalf, TurnsBefore, PointTogether}

-- a step into the upper half
abbrev pub Up : (x y : ℤ) → Type 0
Up x y = (pos 0 <ℤ y) ⊎ ((y ≡ pos 0) × (pos 0 <ℤ x))

high : (x y : ℤ) → Up x y → pos 0 ≤ℤ y
high x y (inl h) = omega (arith, ints)
high x y (inr h) = omega (arith, ints)

-- within the upper half, turning left twice is turning left
pub turn_on : (ux uy vx vy wx wy : ℤ) → Up ux uy → Up vx vy → Up wx wy → pos 0 <ℤ cross ux uy vx vy → pos 0 <ℤ cross vx vy wx wy → pos 0 <ℤ cross ux uy wx wy
turn_on ux uy vx vy wx wy hu (inr hv) hw uv vw =
    absurd (let e = zero_right ux vy hv.0 in let f = mul_weak uy vx (high ux uy hu) (omega (arith, ints, hv.1)) in omega (arith, ints))
turn_on ux uy vx vy wx wy hu (inl hv) (inr hw) uv vw =
    absurd (let e = zero_right vx wy hw.0 in let f = positive_positive vy wx hv hw.1 in omega (arith, ints))
turn_on ux uy vx vy wx wy hu (inl hv) (inl hw) uv vw =
    cancel_strict vy (cross ux uy wx wy) hv (
    let e = three_upward ux uy vx vy wx wy in
    let f = mul_weak uy (cross vx vy wx wy) (high ux uy hu) (omega (arith, ints, vw)) in
    let g = positive_positive wy (cross ux uy vx vy) hw uv in
    omega (arith, ints)
    )

-- a step into the lower half
abbrev pub Down : (x y : ℤ) → Type 0
Down x y = Up (neg_ℤ x) (neg_ℤ y)

turn_down : (ux uy vx vy wx wy : ℤ) → Down ux uy → Down vx vy → Down wx wy → pos 0 <ℤ cross ux uy vx vy → pos 0 <ℤ cross vx vy wx wy → pos 0 <ℤ cross ux uy wx wy
turn_down ux uy vx vy wx wy hu hv hw uv vw =
    let a = neg_neg ux uy vx vy in let b = neg_neg vx vy wx wy in let c = neg_neg ux uy wx wy in
    let t = turn_on (neg_ℤ ux) (neg_ℤ uy) (neg_ℤ vx) (neg_ℤ vy) (neg_ℤ wx) (neg_ℤ wy) hu hv hw (omega (arith, ints)) (omega (arith, ints)) in
    omega (arith, ints)

pub up : (c q : Point) → IsUpper c q → Up (q.x -ℤ c.x) (q.y -ℤ c.y)
up c q (inl h) = inl (omega (arith, ints))
up c q (inr h) = inr (omega (arith, ints, h.0), omega (arith, ints, h.1))

pub down : (c q : Point) → IsLower c q → Down (q.x -ℤ c.x) (q.y -ℤ c.y)
down c q (inl h) = inl (omega (arith, ints))
down c q (inr h) = inr (omega (arith, ints, h.0), omega (arith, ints, h.1))

pub turn_upper : (c q r s : Point) → IsUpper c q → IsUpper c r → IsUpper c s → pos 0 <ℤ area c q r → pos 0 <ℤ area c r s → pos 0 <ℤ area c q s
unfolding area
turn_upper c q r s hq hr hs qr rs = turn_on (q.x -ℤ c.x) (q.y -ℤ c.y) (r.x -ℤ c.x) (r.y -ℤ c.y) (s.x -ℤ c.x) (s.y -ℤ c.y) (up c q hq) (up c r hr) (up c s hs) qr rs

pub turn_lower : (c q r s : Point) → IsLower c q → IsLower c r → IsLower c s → pos 0 <ℤ area c q r → pos 0 <ℤ area c r s → pos 0 <ℤ area c q s
unfolding area
turn_lower c q r s hq hr hs qr rs = turn_down (q.x -ℤ c.x) (q.y -ℤ c.y) (r.x -ℤ c.x) (r.y -ℤ c.y) (s.x -ℤ c.x) (s.y -ℤ c.y) (down c q hq) (down c r hr) (down c s hs) qr rs

pub not_both : (c q : Point) → IsUpper c q → IsLower c q → ⊥
not_both c q (inl a) (inl b) = omega (arith, ints)
not_both c q (inl a) (inr b) = omega (arith, ints, b.0)
not_both c q (inr a) (inl b) = omega (arith, ints, a.0)
not_both c q (inr a) (inr b) = omega (arith, ints, a.1, b.1)

compared : (a b : ℤ) → (a <ℤ b) ⊎ ((b ≡ a) ⊎ (b <ℤ a))
compared a b = elim (negative_or (a -ℤ b)) [
  | inl h ↦ inl (omega (arith, ints))
  | inr rest ↦ elim rest [ inl z ↦ inr (inl (omega (arith, ints))) | inr h ↦ inr (inr (omega (arith, ints))) ]
]

-- a point elsewhere than the centre is in one of the halves
pub upper_or_lower : (c q : Point) → q ≢ c → IsUpper c q ⊎ IsLower c q
upper_or_lower c q apart = elim (compared c.y q.y) [
  | inl h ↦ inl (inl h)
  | inr rest ↦ elim rest [
    | inl level ↦ elim (compared c.x q.x) [
      | inl h ↦ inl (inr (level, h))
      | inr other ↦ elim other [ inl z ↦ absurd (apart (same_point q c z level)) | inr h ↦ inr (inr (level, h)) ]
    ]
    | inr h ↦ inr (inl h)
  ]
]

pub before_on : (c q r s : Point) → TurnsBefore c q r → TurnsBefore c r s → TurnsBefore c q s
before_on c q r s (inl a) (inl b) = absurd (not_both c r b.0 a.1)
before_on c q r s (inl a) (inr (inl b, z)) = absurd (not_both c r b.0 a.1)
before_on c q r s (inl a) (inr (inr b, z)) = inl (a.0, b.1)
before_on c q r s (inr (inl a, y)) (inl b) = inl (a.0, b.1)
before_on c q r s (inr (inr a, y)) (inl b) = absurd (not_both c r b.0 a.1)
before_on c q r s (inr (inl a, y)) (inr (inl b, z)) = inr (inl (a.0, b.1), turn_upper c q r s a.0 a.1 b.1 y z)
before_on c q r s (inr (inl a, y)) (inr (inr b, z)) = absurd (not_both c r a.1 b.0)
before_on c q r s (inr (inr a, y)) (inr (inl b, z)) = absurd (not_both c r b.0 a.1)
before_on c q r s (inr (inr a, y)) (inr (inr b, z)) = inr (inr (a.0, b.1), turn_lower c q r s a.0 a.1 b.1 y z)

in_half : (c q r : Point) → AreInOneHalf c q r → TurnsBefore c q r ⊎ (PointTogether c q r ⊎ TurnsBefore c r q)
in_half c q r h = elim (negative_or (area c q r)) [
  | inl n ↦ inr (inr (inr (other h, (let e = area_swap c q r in omega (arith, ints)))))
  | inr rest ↦ elim rest [ inl z ↦ inr (inl (h, z)) | inr p ↦ inl (inr (h, p)) ]
]
  where
    other : AreInOneHalf c q r → AreInOneHalf c r q
    other (inl k) = inl (k.1, k.0)
    other (inr k) = inr (k.1, k.0)

-- of two directions one comes first, or they are one
pub before_or : (c q r : Point) → q ≢ c → r ≢ c → TurnsBefore c q r ⊎ (PointTogether c q r ⊎ TurnsBefore c r q)
before_or c q r hq hr = elim (upper_or_lower c q hq) [
  | inl a ↦ elim (upper_or_lower c r hr) [ inl b ↦ in_half c q r (inl (a, b)) | inr b ↦ inl (inl (a, b)) ]
  | inr a ↦ elim (upper_or_lower c r hr) [ inl b ↦ inr (inr (inl (b, a))) | inr b ↦ in_half c q r (inr (a, b)) ]
]

-- a direction that comes before another isn't the same
pub not_together : (c q r : Point) → TurnsBefore c q r → ¬ PointTogether c q r
not_together c q r (inl h) (inl k, z) = not_both c r k.1 h.1
not_together c q r (inl h) (inr k, z) = not_both c q h.0 k.0
not_together c q r (inr h) (half, z) = omega (arith, ints, h.1, z)

pub not_together_after : (c q r : Point) → TurnsBefore c r q → ¬ PointTogether c q r
not_together_after c q r (inl h) (inl k, z) = not_both c q k.0 h.1
not_together_after c q r (inl h) (inr k, z) = not_both c r h.0 k.1
not_together_after c q r (inr h) (half, z) = let e = area_swap c q r in omega (arith, ints, h.1, z)

-- a direction doesn't come before itself
pub never_before_itself : (c q : Point) → ¬ TurnsBefore c q q
never_before_itself c q (inl h) = not_both c q h.0 h.1
never_before_itself c q (inr h) = let e = area_swap c q q in omega (arith, ints, h.1)
