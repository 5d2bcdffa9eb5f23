-- What it means for a direction to be at most straight ahead of another, by halves and areas.
use Rattle.std.proofs.Common.{◌≡◌, ◌≢◌, ℤ, pos, ◌-ℤ◌, ◌*ℤ◌, neg_ℤ, ◌<ℤ◌, ◌≤ℤ◌, ◌⊎◌, inl, inr, arith}
use Rattle.std.proofs.lemmas.Int.{ints}
use Rattle.std.proofs.Math.IntN.{*ℤ_comm}
use Rattle.plane.specs.declared.coordinates.Point.{Point}
use Rattle.plane.specs.Geometry.{area, scalar, LiesBetween}
use Rattle.number_laws.proofs.Products.{mul_neg}
use Rattle.number_laws.proofs.Signs.{cancel_strict, negative_or, positive_positive, negative_positive, negative_negative, zero_left, zero_right}
use Rattle.plane.proofs.laws.Area.{area_back}
use Rattle.plane_laws.proofs.Steps.{turn_first, turn_last, turn_weak}
use Rattle.star.specs.Turn.{IsUpper, IsLower, AreInOneHalf}
use Rattle.number_laws.proofs.Crosses.{cross, cross_neg, neg_cross, neg_neg}
use Rattle.star.proofs.laws.Turning.{Up, up, down, upper_or_lower}
use Rattle.plane_laws.proofs.Between.{dot, neg_dot, scalar_is_dot, area_is_cross}

-- within the upper half, turning left twice is turning left, where one of the two may be no turn
pub left_then : (ux uy vx vy wx wy : ℤ) → Up ux uy → Up vx vy → Up wx wy → pos 0 ≤ℤ cross ux uy vx vy → pos 0 <ℤ cross vx vy wx wy → pos 0 <ℤ cross ux uy wx wy
left_then ux uy vx vy wx wy hu hv hw uv vw =
    let a = *ℤ_comm ux vy in let b = *ℤ_comm uy vx in let c = *ℤ_comm vx wy in let d = *ℤ_comm vy wx in let e = *ℤ_comm ux wy in let f = *ℤ_comm uy wx in
    let t = turn_first wy wx vy vx uy ux hw hv hu (omega (arith, ints)) (omega (arith, ints)) in
    omega (arith, ints)

pub then_left : (ux uy vx vy wx wy : ℤ) → Up ux uy → Up vx vy → Up wx wy → pos 0 <ℤ cross ux uy vx vy → pos 0 ≤ℤ cross vx vy wx wy → pos 0 <ℤ cross ux uy wx wy
then_left ux uy vx vy wx wy hu hv hw uv vw =
    let a = *ℤ_comm ux vy in let b = *ℤ_comm uy vx in let c = *ℤ_comm vx wy in let d = *ℤ_comm vy wx in let e = *ℤ_comm ux wy in let f = *ℤ_comm uy wx in
    let t = turn_last wy wx vy vx uy ux hw hv hu (omega (arith, ints)) (omega (arith, ints)) in
    omega (arith, ints)

pub weak_then : (ux uy vx vy wx wy : ℤ) → Up ux uy → Up vx vy → Up wx wy → pos 0 ≤ℤ cross ux uy vx vy → pos 0 ≤ℤ cross vx vy wx wy → pos 0 ≤ℤ cross ux uy wx wy
weak_then ux uy vx vy wx wy hu hv hw uv vw =
    let a = *ℤ_comm ux vy in let b = *ℤ_comm uy vx in let c = *ℤ_comm vx wy in let d = *ℤ_comm vy wx in let e = *ℤ_comm ux wy in let f = *ℤ_comm uy wx in
    let t = turn_weak wy wx vy vx uy ux hw hv hu (omega (arith, ints)) (omega (arith, ints)) in
    omega (arith, ints)

negative_factor : (a b : ℤ) → pos 0 <ℤ a → (a *ℤ b) <ℤ pos 0 → b <ℤ pos 0
negative_factor a b ha h = elim (negative_or b) [
  | inl n ↦ n
  | inr rest ↦ elim rest [ inl z ↦ absurd (let e = zero_right a b z in omega (arith, ints)) | inr p ↦ absurd (let e = positive_positive a b ha p in omega (arith, ints)) ]
]

-- two steps up along one line point the same way
dot_up : (ux uy wx wy : ℤ) → Up ux uy → Up wx wy → cross ux uy wx wy ≡ pos 0 → pos 0 <ℤ dot ux uy wx wy
unfolding dot
dot_up ux uy wx wy (inl hu) (inl hw) h =
    let q = positive_positive uy wy hu hw in
    elim (negative_or ux) [
      | inl n ↦ (let a = negative_positive ux wy n hw in let b : wx <ℤ pos 0 = negative_factor uy wx hu (omega (arith, ints)) in let d = negative_negative ux wx n b in omega (arith, ints))
      | inr rest ↦ elim rest [
        | inl z ↦ (let a = zero_left ux wx z in omega (arith, ints))
        | inr p ↦ (let a = positive_positive ux wy p hw in let b : pos 0 <ℤ wx = cancel_strict uy wx hu (omega (arith, ints)) in let d = positive_positive ux wx p b in omega (arith, ints))
      ]
    ]
dot_up ux uy wx wy (inl hu) (inr hw) h = absurd (let a = zero_right ux wy hw.0 in let b = positive_positive uy wx hu hw.1 in omega (arith, ints))
dot_up ux uy wx wy (inr hu) (inl hw) h = absurd (let a = zero_left uy wx hu.0 in let b = positive_positive ux wy hu.1 hw in omega (arith, ints))
dot_up ux uy wx wy (inr hu) (inr hw) h = let a = zero_left uy wy hu.0 in let b = positive_positive ux wx hu.1 hw.1 in omega (arith, ints)

dot_neg : (ux uy wx wy : ℤ) → dot ux uy (neg_ℤ wx) (neg_ℤ wy) ≡ neg_ℤ (dot ux uy wx wy)
unfolding dot
dot_neg ux uy wx wy = let a = mul_neg ux wx in let b = mul_neg uy wy in omega (arith, ints)

-- the two directions are in the two halves
abbrev pub AreInTwoHalves : (c q r : Point) → Type 0
AreInTwoHalves c q r = (IsUpper c q × IsLower c r) ⊎ (IsLower c q × IsUpper c r)

-- in line and in one half: the same way
same_way : (c q r : Point) → AreInOneHalf c q r → area c q r ≡ pos 0 → pos 0 <ℤ scalar c q r
same_way c q r (inl h) z =
    let s = scalar_is_dot c q r in let a = area_is_cross c q r in
    let d = dot_up _ _ _ _ (up c q h.0) (up c r h.1) (omega (arith, ints)) in omega (arith, ints)
same_way c q r (inr h) z =
    let s = scalar_is_dot c q r in let a = area_is_cross c q r in
    let ux = q.x -ℤ c.x in let uy = q.y -ℤ c.y in let wx = r.x -ℤ c.x in let wy = r.y -ℤ c.y in
    let e = neg_neg ux uy wx wy in let f = neg_dot ux uy (neg_ℤ wx) (neg_ℤ wy) in let g = dot_neg ux uy wx wy in
    let d = dot_up (neg_ℤ ux) (neg_ℤ uy) (neg_ℤ wx) (neg_ℤ wy) (down c q h.0) (down c r h.1) (omega (arith, ints)) in omega (arith, ints)

-- in line and in two halves: opposite ways
other_way : (c q r : Point) → AreInTwoHalves c q r → area c q r ≡ pos 0 → scalar c q r <ℤ pos 0
other_way c q r (inl h) z =
    let s = scalar_is_dot c q r in let a = area_is_cross c q r in
    let ux = q.x -ℤ c.x in let uy = q.y -ℤ c.y in let wx = r.x -ℤ c.x in let wy = r.y -ℤ c.y in
    let e = cross_neg ux uy wx wy in let g = dot_neg ux uy wx wy in
    let d = dot_up ux uy (neg_ℤ wx) (neg_ℤ wy) (up c q h.0) (down c r h.1) (omega (arith, ints)) in omega (arith, ints)
other_way c q r (inr h) z =
    let s = scalar_is_dot c q r in let a = area_is_cross c q r in
    let ux = q.x -ℤ c.x in let uy = q.y -ℤ c.y in let wx = r.x -ℤ c.x in let wy = r.y -ℤ c.y in
    let e = neg_cross ux uy wx wy in let g = neg_dot ux uy wx wy in
    let d = dot_up (neg_ℤ ux) (neg_ℤ uy) wx wy (down c q h.0) (up c r h.1) (omega (arith, ints)) in omega (arith, ints)

-- r is at most straight ahead of q, counterclockwise, and not in its direction
abbrev pub IsLeftOrOpposite : (c q r : Point) → Type 0
IsLeftOrOpposite c q r = (pos 0 <ℤ area c q r) ⊎ LiesBetween c q r

-- the same by halves: no scalar product
abbrev pub IsWithinHalfTurn : (c q r : Point) → Type 0
IsWithinHalfTurn c q r = (AreInOneHalf c q r × (pos 0 <ℤ area c q r)) ⊎ (AreInTwoHalves c q r × (pos 0 ≤ℤ area c q r))

pub halves : (c q r : Point) → q ≢ c → r ≢ c → AreInOneHalf c q r ⊎ AreInTwoHalves c q r
halves c q r hq hr = elim (upper_or_lower c q hq) [
  | inl a ↦ elim (upper_or_lower c r hr) [ inl b ↦ inl (inl (a, b)) | inr b ↦ inr (inl (a, b)) ]
  | inr a ↦ elim (upper_or_lower c r hr) [ inl b ↦ inr (inr (a, b)) | inr b ↦ inl (inr (a, b)) ]
]

pub half_turn_of_ahead : (c q r : Point) → q ≢ c → r ≢ c → IsLeftOrOpposite c q r → IsWithinHalfTurn c q r
half_turn_of_ahead c q r hq hr (inl h) = elim (halves c q r hq hr) [ inl o ↦ inl (o, h) | inr o ↦ inr (o, omega (arith, ints)) ]
half_turn_of_ahead c q r hq hr (inr h) =
    let b = area_back q c r in
    let z : area c q r ≡ pos 0 = omega (arith, ints, h.0) in
    elim (halves c q r hq hr) [ inl o ↦ absurd (let s = same_way c q r o z in omega (arith, ints, h.1)) | inr o ↦ inr (o, omega (arith, ints)) ]

pub ahead_of_half_turn : (c q r : Point) → IsWithinHalfTurn c q r → IsLeftOrOpposite c q r
ahead_of_half_turn c q r (inl h) = inl h.1
ahead_of_half_turn c q r (inr h) = elim (negative_or (area c q r)) [
  | inl n ↦ absurd (omega (arith, ints, h.1))
  | inr rest ↦ elim rest [ inl z ↦ inr ((let b = area_back q c r in omega (arith, ints)), other_way c q r h.0 z) | inr p ↦ inl p ]
]
