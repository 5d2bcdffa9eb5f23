-- What stands between two neighbours in turning order stands between them by orientation, where they are less than
-- half a turn apart.
use Rattle.std.proofs.Common.{◌≡◌, ◌≢◌, ℕ, ◌+◌, ◌<◌, length, ℤ, pos, ◌-ℤ◌, neg_ℤ, ◌<ℤ◌, inl, inr, arith}
use Rattle.std.proofs.lemmas.Int.{ints}
use Rattle.std.proofs.lemmas.Bool.{cases_lt}
use Rattle.plane.specs.declared.coordinates.Point.{Point}
use Rattle.plane.specs.Geometry.{point, area, orientation}
use Rattle.plane.proofs.laws.Area.{area_swap}
use Rattle.star.specs.Turn.{IsUpper, IsLower, TurnsBefore}
use Rattle.star.specs.Stars.{Seen, IsStar, entry, around}
use Rattle.number_laws.proofs.Crosses.{cross, cross_back, neg_cross, neg_neg}
use Rattle.star.proofs.laws.Turning.{Up, Down, turn_on, up, down, not_both}

doubled : (x y : ℤ) → Up x y → Up (neg_ℤ (neg_ℤ x)) (neg_ℤ (neg_ℤ y))
doubled x y (inl h) = inl (omega (arith, ints))
doubled x y (inr h) = inr (omega (arith, ints, h.0), omega (arith, ints, h.1))

-- the first step up, the other two down
one_up : (qx qy sx sy rx ry : ℤ) → Up qx qy → Down sx sy → Down rx ry → pos 0 <ℤ cross qx qy rx ry → pos 0 <ℤ cross sx sy rx ry → pos 0 <ℤ cross qx qy sx sy
one_up qx qy sx sy rx ry hq hs hr qr sr =
    let a = neg_cross rx ry qx qy in let b = cross_back qx qy rx ry in let c = neg_neg sx sy rx ry in
    let t = turn_on (neg_ℤ sx) (neg_ℤ sy) (neg_ℤ rx) (neg_ℤ ry) qx qy hs hr hq (omega (arith, ints)) (omega (arith, ints)) in
    let d = neg_cross sx sy qx qy in let e = cross_back qx qy sx sy in
    omega (arith, ints)

-- the first two steps up, the last down
two_up : (qx qy sx sy rx ry : ℤ) → Up qx qy → Up sx sy → Down rx ry → pos 0 <ℤ cross qx qy rx ry → pos 0 <ℤ cross qx qy sx sy → pos 0 <ℤ cross sx sy rx ry
two_up qx qy sx sy rx ry hq hs hr qr qs =
    let a = neg_cross rx ry qx qy in let b = cross_back qx qy rx ry in
    let t = turn_on (neg_ℤ rx) (neg_ℤ ry) qx qy sx sy hr hq hs (omega (arith, ints)) qs in
    let d = neg_cross rx ry sx sy in let e = cross_back sx sy rx ry in
    omega (arith, ints)

-- the same, with up and down exchanged
one_down : (qx qy sx sy rx ry : ℤ) → Down qx qy → Up sx sy → Up rx ry → pos 0 <ℤ cross qx qy rx ry → pos 0 <ℤ cross sx sy rx ry → pos 0 <ℤ cross qx qy sx sy
one_down qx qy sx sy rx ry hq hs hr qr sr =
    let a = neg_neg qx qy rx ry in let b = neg_neg sx sy rx ry in let c = neg_neg qx qy sx sy in
    let t = one_up (neg_ℤ qx) (neg_ℤ qy) (neg_ℤ sx) (neg_ℤ sy) (neg_ℤ rx) (neg_ℤ ry) hq (doubled sx sy hs) (doubled rx ry hr) (omega (arith, ints)) (omega (arith, ints)) in
    omega (arith, ints)

two_down : (qx qy sx sy rx ry : ℤ) → Down qx qy → Down sx sy → Up rx ry → pos 0 <ℤ cross qx qy rx ry → pos 0 <ℤ cross qx qy sx sy → pos 0 <ℤ cross sx sy rx ry
two_down qx qy sx sy rx ry hq hs hr qr qs =
    let a = neg_neg qx qy rx ry in let b = neg_neg qx qy sx sy in let c = neg_neg sx sy rx ry in
    let t = two_up (neg_ℤ qx) (neg_ℤ qy) (neg_ℤ sx) (neg_ℤ sy) (neg_ℤ rx) (neg_ℤ ry) hq hs (doubled rx ry hr) (omega (arith, ints)) (omega (arith, ints)) in
    omega (arith, ints)

abbrev pub IsAmid : (c q s r : Point) → Type 0
IsAmid c q s r = (pos 0 <ℤ area c q s) × (pos 0 <ℤ area c s r)

-- in turning order q, s, r
amid_in_order : (c q s r : Point) → TurnsBefore c q s → TurnsBefore c s r → pos 0 <ℤ area c q r → IsAmid c q s r
unfolding area
amid_in_order c q s r (inl a) (inl b) h = absurd (not_both c s b.0 a.1)
amid_in_order c q s r (inl a) (inr (inl b, z)) h = absurd (not_both c s b.0 a.1)
amid_in_order c q s r (inl a) (inr (inr b, z)) h = (one_up (q.x -ℤ c.x) (q.y -ℤ c.y) (s.x -ℤ c.x) (s.y -ℤ c.y) (r.x -ℤ c.x) (r.y -ℤ c.y) (up c q a.0) (down c s a.1) (down c r b.1) h z, z)
amid_in_order c q s r (inr (inl a, y)) (inl b) h = (y, two_up (q.x -ℤ c.x) (q.y -ℤ c.y) (s.x -ℤ c.x) (s.y -ℤ c.y) (r.x -ℤ c.x) (r.y -ℤ c.y) (up c q a.0) (up c s a.1) (down c r b.1) h y)
amid_in_order c q s r (inr (inr a, y)) (inl b) h = absurd (not_both c s b.0 a.1)
amid_in_order c q s r (inr y) (inr z) h = (y.1, z.1)

-- r in turning order before q is in the other half
turned_over : (c q r : Point) → TurnsBefore c r q → pos 0 <ℤ area c q r → IsUpper c r × IsLower c q
turned_over c q r (inl a) h = a
turned_over c q r (inr a) h = absurd (let e = area_swap c q r in omega (arith, ints, a.1))

amid_after : (c q s r : Point) → TurnsBefore c r q → TurnsBefore c q s → pos 0 <ℤ area c q r → IsAmid c q s r
unfolding area
amid_after c q s r before (inl b) h = absurd (not_both c q b.0 (turned_over c q r before h).1)
amid_after c q s r before (inr (inl b, z)) h = absurd (not_both c q b.0 (turned_over c q r before h).1)
amid_after c q s r before (inr (inr b, z)) h =
    let o = turned_over c q r before h in
    (z, two_down (q.x -ℤ c.x) (q.y -ℤ c.y) (s.x -ℤ c.x) (s.y -ℤ c.y) (r.x -ℤ c.x) (r.y -ℤ c.y) (down c q b.0) (down c s b.1) (up c r o.0) h z)

amid_before : (c q s r : Point) → TurnsBefore c s r → TurnsBefore c r q → pos 0 <ℤ area c q r → IsAmid c q s r
unfolding area
amid_before c q s r (inl b) before h = absurd (not_both c r (turned_over c q r before h).0 b.1)
amid_before c q s r (inr (inr b, z)) before h = absurd (not_both c r (turned_over c q r before h).0 b.1)
amid_before c q s r (inr (inl b, z)) before h =
    let o = turned_over c q r before h in
    (one_down (q.x -ℤ c.x) (q.y -ℤ c.y) (s.x -ℤ c.x) (s.y -ℤ c.y) (r.x -ℤ c.x) (r.y -ℤ c.y) (down c q o.1) (up c s b.0) (up c r b.1) h z, z)

data Positions (n k j m : ℕ) : Type 0 where
  in_order : k < m → m < j → Positions n k j m
  after : j < k → k < m → Positions n k j m
  before : m < j → j < k → Positions n k j m

positions : (n k j : ℕ) → k < n → j < n → j ≢ k → j ≢ around n (k + 1) → Positions n k j (around n (k + 1))
positions n k j hk hj jk jm = elim (cases_lt (k + 1) n) [
  | inl h ↦ (let e : around n (k + 1) ≡ k + 1 = grind arith in elim (cases_lt j k) [ inl a ↦ after a (omega arith) | inr a ↦ in_order (omega arith) (omega arith) ])
  | inr h ↦ (let e : around n (k + 1) ≡ 0 = grind arith in before (omega arith) (omega arith))
]

pub around_inside : (n k : ℕ) → k < n → around n (k + 1) < n
around_inside n k hk = elim (cases_lt (k + 1) n) [
  | inl h ↦ (let e : around n (k + 1) ≡ k + 1 = grind arith in omega arith)
  | inr h ↦ (let e : around n (k + 1) ≡ 0 = grind arith in omega arith)
]

-- The neighbour after q is q's neighbour r, which is left of it, or stands between them.
pub next_or_amid : (s : Seen) (k j : ℕ) → IsStar s → k < length s.list → j < length s.list → j ≢ k → j ≢ around (length s.list) (k + 1)
    → pos 0 <ℤ orientation s.points s.centre (entry s.list k).0 (entry s.list j).0
    → IsAmid (point s.points s.centre) (point s.points (entry s.list k).0) (point s.points (entry s.list (around (length s.list) (k + 1))).0) (point s.points (entry s.list j).0)
next_or_amid s k j so hk hj jk jm left =
    let m = around (length s.list) (k + 1) in
    let c = point s.points s.centre in
    let p : ℕ → Point = λ i. point s.points (entry s.list i).0 in
    elim (positions (length s.list) k j hk hj jk jm) [
      | in_order a b ↦ amid_in_order c (p k) (p m) (p j) (so.order k m a (omega arith)) (so.order m j b hj) left
      | after a b ↦ amid_after c (p k) (p m) (p j) (so.order j k a hk) (so.order k m b (around_inside (length s.list) k hk)) left
      | before a b ↦ amid_before c (p k) (p m) (p j) (so.order m j a hj) (so.order j k b hk) left
    ]
