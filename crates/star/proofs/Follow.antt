-- Directions that follow one another round a centre, and what is at most straight ahead.
use Rattle.std.proofs.Common.{◌≢◌, ℤ, pos, ◌-ℤ◌, neg_ℤ, ◌<ℤ◌, ◌≤ℤ◌, ◌⊎◌, inl, inr, arith}
use Rattle.std.proofs.lemmas.Int.{ints}
use Rattle.plane.specs.declared.coordinates.Point.{Point}
use Rattle.plane.specs.Geometry.{area}
use Rattle.number_laws.proofs.Signs.{negative_or}
use Rattle.plane.proofs.laws.Area.{area_swap}
use Rattle.star.specs.Turn.{IsUpper, IsLower, AreInOneHalf, TurnsBefore, PointTogether}
use Rattle.number_laws.proofs.Crosses.{cross, cross_back, cross_neg, neg_cross, neg_neg}
use Rattle.star.proofs.laws.Turning.{Up, Down, up, down, not_both, before_or, before_on}
use Rattle.star.proofs.HalfTurn.{left_then, then_left, weak_then, AreInTwoHalves, IsWithinHalfTurn}

-- q up, r and s down
up_down_down : (qx qy rx ry sx sy : ℤ) → Up qx qy → Down rx ry → Down sx sy → pos 0 <ℤ cross rx ry sx sy → pos 0 ≤ℤ cross qx qy sx sy → pos 0 <ℤ cross qx qy rx ry
up_down_down qx qy rx ry sx sy hq hr hs rs qs =
    let a = neg_neg rx ry sx sy in let b = neg_cross sx sy qx qy in let d = cross_back qx qy sx sy in
    let t = then_left (neg_ℤ rx) (neg_ℤ ry) (neg_ℤ sx) (neg_ℤ sy) qx qy hr hs hq (omega (arith, ints)) (omega (arith, ints)) in
    let e = neg_cross rx ry qx qy in let f = cross_back qx qy rx ry in
    omega (arith, ints)

-- q down, r and s up
down_up_up : (qx qy rx ry sx sy : ℤ) → Down qx qy → Up rx ry → Up sx sy → pos 0 <ℤ cross rx ry sx sy → pos 0 ≤ℤ cross qx qy sx sy → pos 0 <ℤ cross qx qy rx ry
down_up_up qx qy rx ry sx sy hq hr hs rs qs =
    let b = cross_neg sx sy qx qy in let d = cross_back qx qy sx sy in
    let t = then_left rx ry sx sy (neg_ℤ qx) (neg_ℤ qy) hr hs hq rs (omega (arith, ints)) in
    let e = cross_neg rx ry qx qy in let f = cross_back qx qy rx ry in
    omega (arith, ints)

-- q and r up, s down
up_up_down : (qx qy rx ry sx sy : ℤ) → Up qx qy → Up rx ry → Down sx sy → pos 0 <ℤ cross qx qy rx ry → pos 0 ≤ℤ cross qx qy sx sy → pos 0 <ℤ cross rx ry sx sy
up_up_down qx qy rx ry sx sy hq hr hs qr qs =
    let b = neg_cross sx sy qx qy in let d = cross_back qx qy sx sy in
    let t = left_then (neg_ℤ sx) (neg_ℤ sy) qx qy rx ry hs hq hr (omega (arith, ints)) qr in
    let e = neg_cross sx sy rx ry in let f = cross_back rx ry sx sy in
    omega (arith, ints)

-- q and r down, s up
down_down_up : (qx qy rx ry sx sy : ℤ) → Down qx qy → Down rx ry → Up sx sy → pos 0 <ℤ cross qx qy rx ry → pos 0 ≤ℤ cross qx qy sx sy → pos 0 <ℤ cross rx ry sx sy
down_down_up qx qy rx ry sx sy hq hr hs qr qs =
    let a = neg_neg qx qy rx ry in let b = cross_neg sx sy qx qy in let d = cross_back qx qy sx sy in
    let t = left_then sx sy (neg_ℤ qx) (neg_ℤ qy) (neg_ℤ rx) (neg_ℤ ry) hs hq hr (omega (arith, ints)) (omega (arith, ints)) in
    let e = cross_neg sx sy rx ry in let f = cross_back rx ry sx sy in
    omega (arith, ints)

-- the directions q, r, s follow one another, counterclockwise
abbrev pub FollowRound : (c q r s : Point) → Type 0
FollowRound c q r s = (TurnsBefore c q r × TurnsBefore c r s) ⊎ ((TurnsBefore c r s × TurnsBefore c s q) ⊎ (TurnsBefore c s q × TurnsBefore c q r))

weakly : (c q r : Point) → IsWithinHalfTurn c q r → pos 0 ≤ℤ area c q r
weakly c q r (inl h) = omega (arith, ints, h.1)
weakly c q r (inr h) = h.1

-- what comes before q in turning order and is at most straight ahead of it is in the upper half, and q in the lower
over : (c q s : Point) → TurnsBefore c s q → IsWithinHalfTurn c q s → IsUpper c s × IsLower c q
over c q s (inl h) t = h
over c q s (inr h) t = absurd (let a = weakly c q s t in let b = area_swap c q s in omega (arith, ints, h.1))

both_upper : (c r s : Point) → IsUpper c s → TurnsBefore c r s → IsUpper c r × (pos 0 <ℤ area c r s)
both_upper c r s u (inl h) = absurd (not_both c s u h.1)
both_upper c r s u (inr (inl h, z)) = (h.0, z)
both_upper c r s u (inr (inr h, z)) = absurd (not_both c s u h.1)

both_lower : (c q r : Point) → IsLower c q → TurnsBefore c q r → IsLower c r × (pos 0 <ℤ area c q r)
both_lower c q r l (inl h) = absurd (not_both c q h.0 l)
both_lower c q r l (inr (inl h, z)) = absurd (not_both c q h.0 l)
both_lower c q r l (inr (inr h, z)) = (h.1, z)

-- what stands before s, seen from q, is at most straight ahead where s is
pub half_turn_first : (c q r s : Point) → FollowRound c q r s → IsWithinHalfTurn c q s → IsWithinHalfTurn c q r
unfolding area
half_turn_first c q r s (inl (inr a, b)) t = inl a
half_turn_first c q r s (inl (inl a, b)) t =
    let (hs, z) = both_lower c r s a.1 b in
    let w = weakly c q s t in
    let k = up_down_down (q.x -ℤ c.x) (q.y -ℤ c.y) (r.x -ℤ c.x) (r.y -ℤ c.y) (s.x -ℤ c.x) (s.y -ℤ c.y) (up c q a.0) (down c r a.1) (down c s hs) z w in
    inr (inl a, omega (arith, ints))
half_turn_first c q r s (inr (inl (a, b))) t =
    let (hs, hq) = over c q s b t in
    let (hr, z) = both_upper c r s hs a in
    let w = weakly c q s t in
    let k = down_up_up (q.x -ℤ c.x) (q.y -ℤ c.y) (r.x -ℤ c.x) (r.y -ℤ c.y) (s.x -ℤ c.x) (s.y -ℤ c.y) (down c q hq) (up c r hr) (up c s hs) z w in
    inr (inr (hq, hr), omega (arith, ints))
half_turn_first c q r s (inr (inr (a, b))) t =
    let (hs, hq) = over c q s a t in
    let (hr, z) = both_lower c q r hq b in
    inl (inr (hq, hr), z)

-- s is at most straight ahead of what stands between q and s, where it is of q
pub half_turn_last : (c q r s : Point) → FollowRound c q r s → IsWithinHalfTurn c q s → IsWithinHalfTurn c r s
unfolding area
half_turn_last c q r s (inl (a, inr b)) t = inl b
half_turn_last c q r s (inl (a, inl b)) t =
    let (hq, z) = both_upper c q r b.0 a in
    let w = weakly c q s t in
    let k = up_up_down (q.x -ℤ c.x) (q.y -ℤ c.y) (r.x -ℤ c.x) (r.y -ℤ c.y) (s.x -ℤ c.x) (s.y -ℤ c.y) (up c q hq) (up c r b.0) (down c s b.1) z w in
    inr (inl b, omega (arith, ints))
half_turn_last c q r s (inr (inl (a, b))) t =
    let (hs, hq) = over c q s b t in
    let (hr, z) = both_upper c r s hs a in
    inl (inl (hr, hs), z)
half_turn_last c q r s (inr (inr (a, b))) t =
    let (hs, hq) = over c q s a t in
    let (hr, z) = both_lower c q r hq b in
    let w = weakly c q s t in
    let k = down_down_up (q.x -ℤ c.x) (q.y -ℤ c.y) (r.x -ℤ c.x) (r.y -ℤ c.y) (s.x -ℤ c.x) (s.y -ℤ c.y) (down c q hq) (down c r hr) (up c s hs) z w in
    inr (inr (hr, hs), omega (arith, ints))

-- a point in the direction of q has the same ahead of it
pub half_turn_together : (c q u s : Point) → PointTogether c u q → IsWithinHalfTurn c q s → IsWithinHalfTurn c u s
unfolding area
half_turn_together c q u s (inl h, z) (inl (inl k, w)) =
    inl (inl (h.0, k.1), left_then (u.x -ℤ c.x) (u.y -ℤ c.y) (q.x -ℤ c.x) (q.y -ℤ c.y) (s.x -ℤ c.x) (s.y -ℤ c.y) (up c u h.0) (up c q h.1) (up c s k.1) (omega (arith, ints)) w)
half_turn_together c q u s (inl h, z) (inl (inr k, w)) = absurd (not_both c q h.1 k.0)
half_turn_together c q u s (inr h, z) (inl (inl k, w)) = absurd (not_both c q k.0 h.1)
half_turn_together c q u s (inr h, z) (inl (inr k, w)) =
    let ux = u.x -ℤ c.x in let uy = u.y -ℤ c.y in let qx = q.x -ℤ c.x in let qy = q.y -ℤ c.y in let sx = s.x -ℤ c.x in let sy = s.y -ℤ c.y in
    let a = neg_neg ux uy qx qy in let b = neg_neg qx qy sx sy in let d = neg_neg ux uy sx sy in
    let t = left_then (neg_ℤ ux) (neg_ℤ uy) (neg_ℤ qx) (neg_ℤ qy) (neg_ℤ sx) (neg_ℤ sy) (down c u h.0) (down c q h.1) (down c s k.1) (omega (arith, ints)) (omega (arith, ints)) in
    inl (inr (h.0, k.1), omega (arith, ints))
half_turn_together c q u s (inl h, z) (inr (inl k, w)) =
    let ux = u.x -ℤ c.x in let uy = u.y -ℤ c.y in let qx = q.x -ℤ c.x in let qy = q.y -ℤ c.y in let sx = s.x -ℤ c.x in let sy = s.y -ℤ c.y in
    let a = neg_cross sx sy qx qy in let b = cross_back qx qy sx sy in let d = cross_back qx qy ux uy in
    let t = weak_then (neg_ℤ sx) (neg_ℤ sy) qx qy ux uy (down c s k.1) (up c q h.1) (up c u h.0) (omega (arith, ints)) (omega (arith, ints)) in
    let e = neg_cross sx sy ux uy in let f = cross_back ux uy sx sy in
    inr (inl (h.0, k.1), omega (arith, ints))
half_turn_together c q u s (inl h, z) (inr (inr k, w)) = absurd (not_both c q h.1 k.0)
half_turn_together c q u s (inr h, z) (inr (inl k, w)) = absurd (not_both c q k.0 h.1)
half_turn_together c q u s (inr h, z) (inr (inr k, w)) =
    let ux = u.x -ℤ c.x in let uy = u.y -ℤ c.y in let qx = q.x -ℤ c.x in let qy = q.y -ℤ c.y in let sx = s.x -ℤ c.x in let sy = s.y -ℤ c.y in
    let a = cross_neg sx sy qx qy in let b = cross_back qx qy sx sy in let d = neg_neg qx qy ux uy in let g = cross_back qx qy ux uy in
    let t = weak_then sx sy (neg_ℤ qx) (neg_ℤ qy) (neg_ℤ ux) (neg_ℤ uy) (up c s k.1) (down c q h.1) (down c u h.0) (omega (arith, ints)) (omega (arith, ints)) in
    let e = cross_neg sx sy ux uy in let f = cross_back ux uy sx sy in
    inr (inr (h.0, k.1), omega (arith, ints))

-- nothing is ahead of itself, nor of what stands in its direction
pub together_not_ahead : (c q r : Point) → PointTogether c q r → ¬ IsWithinHalfTurn c q r
together_not_ahead c q r (h, z) (inl (k, w)) = omega (arith, ints, w, z)
together_not_ahead c q r (inl h, z) (inr (inl k, w)) = not_both c r h.1 k.1
together_not_ahead c q r (inl h, z) (inr (inr k, w)) = not_both c q h.0 k.0
together_not_ahead c q r (inr h, z) (inr (inl k, w)) = not_both c q k.0 h.0
together_not_ahead c q r (inr h, z) (inr (inr k, w)) = not_both c r k.1 h.1

-- where r isn't ahead of q, q is ahead of r, unless they are one direction
pub ahead_back : (c q r : Point) → AreInOneHalf c q r ⊎ AreInTwoHalves c q r → ¬ PointTogether c q r → ¬ IsWithinHalfTurn c q r → IsWithinHalfTurn c r q
ahead_back c q r (inl h) ne not =
    let b = area_swap c q r in
    elim (negative_or (area c q r)) [
      | inl n ↦ inl (one_back h, omega (arith, ints))
      | inr rest ↦ elim rest [ inl z ↦ absurd (ne (h, z)) | inr p ↦ absurd (not (inl (h, p))) ]
    ]
  where
    one_back : AreInOneHalf c q r → AreInOneHalf c r q
    one_back (inl k) = inl (k.1, k.0)
    one_back (inr k) = inr (k.1, k.0)
ahead_back c q r (inr h) ne not =
    let b = area_swap c q r in
    elim (negative_or (area c q r)) [
      | inl n ↦ inr (two_back h, omega (arith, ints))
      | inr rest ↦ elim rest [ inl z ↦ absurd (not (inr (h, omega (arith, ints)))) | inr p ↦ absurd (not (inr (h, omega (arith, ints)))) ]
    ]
  where
    two_back : AreInTwoHalves c q r → AreInTwoHalves c r q
    two_back (inl k) = inr (k.1, k.0)
    two_back (inr k) = inl (k.1, k.0)

pub follow_rotated : (c q r s : Point) → FollowRound c q r s → FollowRound c r s q
follow_rotated c q r s (inl (a, b)) = inr (inr (a, b))
follow_rotated c q r s (inr (inl (a, b))) = inl (a, b)
follow_rotated c q r s (inr (inr (a, b))) = inr (inl (a, b))

never : (c q r : Point) → TurnsBefore c q r → TurnsBefore c r q → ⊥
never c q r a b = self (before_on c q r q a b)
  where
    self : TurnsBefore c q q → ⊥
    self (inl h) = not_both c q h.0 h.1
    self (inr h) = let e = area_swap c q q in omega (arith, ints, h.1)

-- u before k and k before b, seen from a: u before b
pub follow_joined : (c a u k b : Point) → FollowRound c a u k → FollowRound c a k b → FollowRound c a u b
follow_joined c a u k b (inl (p, q)) (inl (r, s)) = inl (p, before_on c u k b q s)
follow_joined c a u k b (inl (p, q)) (inr (inl (r, s))) = absurd (never c a k (before_on c a u k p q) (before_on c k b a r s))
follow_joined c a u k b (inl (p, q)) (inr (inr (r, s))) = inr (inr (r, p))
follow_joined c a u k b (inr (inl (p, q))) (inl (r, s)) = absurd (never c k a q r)
follow_joined c a u k b (inr (inl (p, q))) (inr (inl (r, s))) = inr (inl (before_on c u k b p r, s))
follow_joined c a u k b (inr (inl (p, q))) (inr (inr (r, s))) = absurd (never c k a q s)
follow_joined c a u k b (inr (inr (p, q))) (inl (r, s)) = absurd (never c k a p r)
follow_joined c a u k b (inr (inr (p, q))) (inr (inl (r, s))) = inr (inr (s, q))
follow_joined c a u k b (inr (inr (p, q))) (inr (inr (r, s))) = absurd (never c k a p s)

-- where a direction stands as to two that differ
pub data Standing (c a k u : Point) : Type 0 where
  at_first : PointTogether c u a → Standing c a k u
  at_second : PointTogether c u k → Standing c a k u
  inside : FollowRound c a u k → Standing c a k u
  outside : FollowRound c k u a → Standing c a k u

pub standing_of : (c a k u : Point) → a ≢ c → k ≢ c → u ≢ c → TurnsBefore c a k ⊎ TurnsBefore c k a → Standing c a k u
standing_of c a k u ha hk hu (inl ak) = elim (before_or c u a hu ha) [
  | inl ua ↦ outside (inr (inl (ua, ak)))
  | inr rest ↦ elim rest [
    | inl t ↦ at_first t
    | inr au ↦ elim (before_or c u k hu hk) [
      | inl uk ↦ inside (inl (au, uk))
      | inr more ↦ elim more [ inl t ↦ at_second t | inr ku ↦ outside (inr (inr (ak, ku))) ]
    ]
  ]
]
standing_of c a k u ha hk hu (inr ka) = elim (before_or c u k hu hk) [
  | inl uk ↦ inside (inr (inl (uk, ka)))
  | inr rest ↦ elim rest [
    | inl t ↦ at_second t
    | inr ku ↦ elim (before_or c u a hu ha) [
      | inl ua ↦ outside (inl (ku, ua))
      | inr more ↦ elim more [ inl t ↦ at_first t | inr au ↦ inside (inr (inr (ka, au))) ]
    ]
  ]
]
