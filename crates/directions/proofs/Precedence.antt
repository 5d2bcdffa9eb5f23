-- The order of points round a point is strict and total, and a test of it.
use Rattle.std.proofs.Common.{◌≡◌, ◌≢◌, ℕ, ◌<◌, List, length, ◌⊎◌, inl, inr, ◌↔◌, Bool, true, false, IsTrue, refl, sym, ◌∙◌, pos, ◌<ℤ◌, arith}
use Rattle.std.proofs.lemmas.Bool.{false≢true}
use Rattle.std.proofs.lemmas.Int.{ints}
use Rattle.plane.specs.declared.coordinates.Point.{Point}
use Rattle.plane.specs.Geometry.{area, LiesBetween}
use Rattle.plane.proofs.laws.Area.{area_first, area_swap}
use Rattle.plane.proofs.laws.Along.{one_between}
use Rattle.plane.proofs.laws.Line.{collinear}
use Rattle.star.specs.Turn.{IsUpper, IsLower, AreInOneHalf, TurnsBefore, PointTogether}
use Rattle.star.proofs.laws.Turning.{not_both, upper_or_lower, before_on, before_or, not_together, not_together_after, never_before_itself}
use Rattle.star.proofs.laws.Directions.{not_opposed}
use Rattle.directions.proofs.Nearer.{together_back, between_together, further_on, flip_up, flip_down, not_itself, rank_up, rank_down}

-- q comes before r round c: its direction comes first, or it is nearer in the same direction
abbrev pub Precedes : (c q r : Point) → Type 0
Precedes c q r = TurnsBefore c q r ⊎ (PointTogether c q r × LiesBetween q c r)

upper_on : (q r s : Point) → IsUpper q r → IsUpper r s → IsUpper q s
upper_on q r s (inl h) (inl k) = inl (omega (arith, ints, h, k))
upper_on q r s (inl h) (inr k) = inl (omega (arith, ints, h, k.0))
upper_on q r s (inr h) (inl k) = inl (omega (arith, ints, h.0, k))
upper_on q r s (inr h) (inr k) = inr (k.0 ∙ h.0, omega (arith, ints, h.1, k.1))

lower_on : (q r s : Point) → IsLower q r → IsLower r s → IsLower q s
lower_on q r s (inl h) (inl k) = inl (omega (arith, ints, h, k))
lower_on q r s (inl h) (inr k) = inl (omega (arith, ints, h, k.0))
lower_on q r s (inr h) (inl k) = inl (omega (arith, ints, h.0, k))
lower_on q r s (inr h) (inr k) = inr (k.0 ∙ h.0, omega (arith, ints, h.1, k.1))

half_on : (c q r s : Point) → AreInOneHalf c q r → AreInOneHalf c r s → AreInOneHalf c q s
half_on c q r s (inl h) (inl k) = inl (h.0, k.1)
half_on c q r s (inl h) (inr k) = absurd (not_both c r h.1 k.0)
half_on c q r s (inr h) (inl k) = absurd (not_both c r k.0 h.1)
half_on c q r s (inr h) (inr k) = inr (h.0, k.1)

pub together_on : (c q r s : Point) → r ≢ c → PointTogether c q r → PointTogether c r s → PointTogether c q s
together_on c q r s rc h k =
    let e = area_swap c q r in
    (half_on c q r s h.0 k.0, collinear c r c q s (λ x. rc (sym x)) (area_first c r) (omega (arith, ints, e, h.1)) k.1)

together_before : (c q r s : Point) → q ≢ c → r ≢ c → s ≢ c → PointTogether c q r → TurnsBefore c r s → TurnsBefore c q s
together_before c q r s qc rc sc h k = elim (before_or c q s qc sc) [
  | inl b ↦ b
  | inr rest ↦ elim rest [
    | inl t ↦ absurd (not_together c r s k (together_on c r q s qc (together_back c q r h) t))
    | inr b ↦ absurd (not_together_after c q r (before_on c r s q k b) h)
  ]
]

before_together : (c q r s : Point) → q ≢ c → r ≢ c → s ≢ c → TurnsBefore c q r → PointTogether c r s → TurnsBefore c q s
before_together c q r s qc rc sc h k = elim (before_or c q s qc sc) [
  | inl b ↦ b
  | inr rest ↦ elim rest [
    | inl t ↦ absurd (not_together c q r h (together_on c q s r sc t (together_back c r s k)))
    | inr b ↦ absurd (not_together_after c r s (before_on c s q r b h) k)
  ]
]

nearer_on : (c q r s : Point) → PointTogether c q s → LiesBetween q c r → LiesBetween r c s → LiesBetween q c s
nearer_on c q r s t h k = elim t.0 [
  | inl u ↦ (let qr = (further_on c q r h).0 u.0 in rank_up c q s t u.0 (upper_on q r s qr ((further_on c r s k).0 (upper_on c q r u.0 qr))))
  | inr d ↦ (let qr = (further_on c q r h).1 d.0 in rank_down c q s t d.0 (lower_on q r s qr ((further_on c r s k).1 (lower_on c q r d.0 qr))))
]

pub precedes_on : (c q r s : Point) → q ≢ c → r ≢ c → s ≢ c → Precedes c q r → Precedes c r s → Precedes c q s
precedes_on c q r s qc rc sc (inl h) (inl k) = inl (before_on c q r s h k)
precedes_on c q r s qc rc sc (inl h) (inr k) = inl (before_together c q r s qc rc sc h k.0)
precedes_on c q r s qc rc sc (inr h) (inl k) = inl (together_before c q r s qc rc sc h.0 k)
precedes_on c q r s qc rc sc (inr h) (inr k) = let t = together_on c q r s rc h.0 k.0 in inr (t, nearer_on c q r s t h.1 k.1)

pub precedes_or : (c q r : Point) → q ≢ c → r ≢ c → q ≢ r → Precedes c q r ⊎ Precedes c r q
precedes_or c q r qc rc qr = elim (before_or c q r qc rc) [
  | inl b ↦ inl (inl b)
  | inr rest ↦ elim rest [
    | inl t ↦ elim (one_between c q r (λ e. qc (sym e)) (λ e. rc (sym e)) qr t.1) [
      | inl b ↦ absurd (not_opposed c q r t.0 b)
      | inr more ↦ elim more [ inl b ↦ inl (inr (t, b)) | inr b ↦ inr (inr (together_back c q r t, b)) ]
    ]
    | inr b ↦ inr (inl b)
  ]
]

never_precedes_itself : (c q : Point) → ¬ Precedes c q q
never_precedes_itself c q (inl h) = never_before_itself c q h
never_precedes_itself c q (inr h) = elim h.0.0 [
  | inl u ↦ not_itself q ((further_on c q q h.1).0 u.0)
  | inr d ↦ not_itself q (flip_down q q ((further_on c q q h.1).1 d.0))
]

pub never_both : (c q r : Point) → q ≢ c → r ≢ c → Precedes c q r → Precedes c r q → ⊥
never_both c q r qc rc h k = never_precedes_itself c q (precedes_on c q r q qc rc qc h k)

-- the test, by halves and by orientation
pub halves_apart : (c q r : Point) → IsUpper c q → IsLower c r → Precedes c q r
halves_apart c q r h k = inl (inl (h, k))

pub halves_back : (c q r : Point) → IsLower c q → IsUpper c r → ¬ Precedes c q r
halves_back c q r h k p = elim p [
  | inl t ↦ elim t [ inl a ↦ not_both c q a.0 h | inr a ↦ elim a.0 [ inl u ↦ not_both c q u.0 h | inr d ↦ not_both c r k d.1 ] ]
  | inr t ↦ elim t.0.0 [ inl u ↦ not_both c q u.0 h | inr d ↦ not_both c r k d.1 ]
]

pub left_first : (c q r : Point) → AreInOneHalf c q r → pos 0 <ℤ area c q r → Precedes c q r
left_first c q r half left = inl (inr (half, left))

pub right_later : (c q r : Point) → AreInOneHalf c q r → area c q r <ℤ pos 0 → ¬ Precedes c q r
right_later c q r half right p = elim p [
  | inl t ↦ elim t [
    | inl a ↦ elim half [ inl u ↦ not_both c r u.1 a.1 | inr d ↦ not_both c q a.0 d.0 ]
    | inr a ↦ omega (arith, ints, right, a.1)
  ]
  | inr t ↦ omega (arith, ints, right, t.0.1)
]

between_of : (c q r : Point) → AreInOneHalf c q r → area c q r ≡ pos 0 → Precedes c q r → LiesBetween q c r
between_of c q r half line p = elim p [
  | inl t ↦ elim t [
    | inl a ↦ elim half [ inl u ↦ absurd (not_both c r u.1 a.1) | inr d ↦ absurd (not_both c q a.0 d.0) ]
    | inr a ↦ absurd (omega (arith, ints, line, a.1))
  ]
  | inr t ↦ t.1
]

pub level_above : (c q r : Point) → IsUpper c q → IsUpper c r → area c q r ≡ pos 0 → IsUpper q r ↔ Precedes c q r
level_above c q r hq hr line =
    (λ u. inr ((inl (hq, hr), line), rank_up c q r (inl (hq, hr), line) hq u), λ p. (further_on c q r (between_of c q r (inl (hq, hr)) line p)).0 hq)

pub level_below : (c q r : Point) → IsLower c q → IsLower c r → area c q r ≡ pos 0 → IsUpper r q ↔ Precedes c q r
level_below c q r hq hr line = (
  λ u. inr ((inr (hq, hr), line), rank_down c q r (inr (hq, hr), line) hq (flip_up r q u)),
  λ p. flip_down q r ((further_on c q r (between_of c q r (inr (hq, hr)) line p)).1 hq),
)

-- a point in the direction of another and not after it is between or the point itself
pub between_first : (c k r q : Point) → k ≢ c → r ≢ c → q ≢ c → Precedes c k r → Precedes c r q → PointTogether c k q → LiesBetween r c q
between_first c k r q kc rc qc kr (inr h) t = h.1
between_first c k r q kc rc qc (inl a) (inl b) t = absurd (not_together c k q (before_on c k r q a b) t)
between_first c k r q kc rc qc (inr a) (inl b) t = absurd (not_together c k q (together_before c k r q kc rc qc a.0 b) t)
