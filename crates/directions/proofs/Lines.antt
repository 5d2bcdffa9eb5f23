-- Points on a line through p have one key.
use Rattle.std.proofs.Common.{◌≡◌, ◌≢◌, ℕ, ◌+◌, ◌*◌, ◌/◌, ◌<◌, ◌≤◌, inl, inr, pos, List, length, sym, ◌∙◌, ap, arith}
use Rattle.std.specs.Prelude.{unsigned_abs, ◌-ℤ◌, ◌*ℤ◌}
use Rattle.std.proofs.Math.Nat.{div-mul-le_self, div-le_of_le-mul, mul-le-mul_right, le_of_mul-le-mul_right}
use Rattle.std.proofs.lemmas.Bool.{cases_lt}
use Rattle.std.proofs.lemmas.Int.{ints, unsigned_abs-mul}
use Rattle.std.proofs.lemmas.Nat.{le-div}
use Rattle.plane.specs.declared.coordinates.Point.{Point}
use Rattle.plane.specs.Accepted.{AreAccepted}
use Rattle.plane.specs.Geometry.{point, area, IsBetween}
use Rattle.plane.proofs.laws.Area.{area_back}
use Rattle.plane.proofs.laws.Border.{points_differ}
use Rattle.plane.proofs.laws.Line.{same_point}
use Rattle.directions.specs.Key.{share, across, upward, line_key}

-- f parts of s, where a + b is s: as many parts of t at most
parts : (f n s t y w : ℕ) → 0 < s → f * s ≤ y * n → y * t ≤ w * s → f * t ≤ w * n
parts f n s t y w hs fs yt =
    let a : (f * s) * t ≤ (y * n) * t = mul-le-mul_right t fs in
    let b : (y * t) * n ≤ (w * s) * n = mul-le-mul_right n yt in
    le_of_mul-le-mul_right (grind (arith)) hs

pub share_rises : (x y z w : ℕ) → 0 < x + y → 0 < z + w → y * z ≤ x * w → share x y ≤ share z w
unfolding share
share_rises x y z w hs ht h =
    le-div ((y * 2147483648) / (x + y)) (w * 2147483648) (z + w) ht
    (parts ((y * 2147483648) / (x + y)) 2147483648 (x + y) (z + w) y w hs (div-mul-le_self (y * 2147483648) (x + y)) (grind (arith)))

pub share_most : (x y : ℕ) → share x y ≤ 2147483648
unfolding share
share_most x y = div-le_of_le-mul (x + y) (grind (arith))

share_same : (x y z w : ℕ) → 0 < x + y → 0 < z + w → y * z ≡ x * w → share x y ≡ share z w
share_same x y z w hs ht e =
    let a : share x y ≤ share z w = share_rises x y z w hs ht (omega (arith, e)) in
    let b : share z w ≤ share x y = share_rises z w x y ht hs (omega (arith, e)) in omega arith

-- two points that differ are apart in one coordinate
pub some_step : (c q : Point) → q ≢ c → 0 < across c q + upward c q
some_step c q ne = elim (cases_lt 0 (across c q + upward c q)) [
  | inl h ↦ h
  | inr h ↦ absurd (ne (same_point q c (omega (arith, ints)) (omega (arith, ints))))
]

level : (p q r : Point) → area p q r ≡ pos 0 → (q.y -ℤ p.y) *ℤ (r.x -ℤ p.x) ≡ (q.x -ℤ p.x) *ℤ (r.y -ℤ p.y)
unfolding area
level p q r h = omega (arith, ints, h)

key_of_line : (p q r : Point) → q ≢ p → r ≢ p → area p q r ≡ pos 0 → share (across p q) (upward p q) ≡ share (across p r) (upward p r)
key_of_line p q r qp rp h =
    share_same (across p q) (upward p q) (across p r) (upward p r) (some_step p q qp) (some_step p r rp)
    (sym (unsigned_abs-mul (q.y -ℤ p.y) (r.x -ℤ p.x)) ∙ ap unsigned_abs (level p q r h) ∙ unsigned_abs-mul (q.x -ℤ p.x) (r.y -ℤ p.y))

pub opposite_keys : (S : List Point) (p q r : ℕ) → AreAccepted S → p < length S → q < length S → r < length S → q ≢ p → r ≢ p → IsBetween S p q r → line_key S p q ≡ line_key S p r
opposite_keys S p q r ok pn qn rn qp rp between =
    key_of_line (point S p) (point S q) (point S r) (points_differ S q p ok.apart qn pn qp) (points_differ S r p ok.apart rn pn rp)
    (omega (arith, ints, between.0, area_back (point S p) (point S q) (point S r)))
