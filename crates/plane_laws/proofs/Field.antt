-- Points with a sign for each three of them: what a crossing is, and where a segment that enters a triangle leaves it.
use Rattle.std.proofs.Common.{◌≡◌, ◌≢◌, ℕ, ℤ, pos, neg_ℤ, ◌+ℤ◌, ◌*ℤ◌, inl, inr, sym, ◌∙◌, subst, arith}
use Rattle.std.specs.Prelude.{◌<ℤ◌, ◌≤ℤ◌}
use Rattle.std.proofs.lemmas.Int.{ints}
use Rattle.plane.specs.Geometry.{AreOpposite}
use Rattle.number_laws.proofs.Signs.{by_sign, positive_same, turned_low, turned_high, weak_same, weak_of_positive, zero_of_own, zero_not_positive}
use Rattle.number_laws.proofs.Sums.{second_high, second_low, first_weak, last_weak, last_high, last_low}

-- the laws of the signs o, and of the points B strictly between two others
pub record Laws (o : ℕ → ℕ → ℕ → ℤ) (B : ℕ → ℕ → ℕ → Type 0) : Type 0 where
  pub cycle : (i j k : ℕ) → o j k i ≡ o i j k
  pub swap : (i j k : ℕ) → o j i k ≡ neg_ℤ (o i j k)
  pub four : (p q r s : ℕ) → o p q r +ℤ o p r s ≡ o p q s +ℤ o q r s
  pub five : (a b c d e : ℕ) → o a c e *ℤ o a b d ≡ o a d e *ℤ o a b c +ℤ o a c d *ℤ o a b e
  pub on : (k c d : ℕ) → B k c d → o c d k ≡ pos 0
  pub cut : (x k c d : ℕ) → B k c d → pos 0 <ℤ o x c d → (pos 0 <ℤ o x c k) × (pos 0 <ℤ o x k d)
  pub found : (x u v r : ℕ) → o u v r ≡ pos 0 → pos 0 <ℤ o r x v → pos 0 <ℤ o x r u → B r u v

-- the segment from u to v crosses that from p to q from its right to its left
pub record Over (o : ℕ → ℕ → ℕ → ℤ) (p q u v : ℕ) : Type 0 where
  pub end : pos 0 <ℤ o p q v
  pub start : pos 0 <ℤ o q p u
  pub first : pos 0 <ℤ o u v p
  pub second : pos 0 <ℤ o v u q

pub over_back : (o : ℕ → ℕ → ℕ → ℤ) (p q u v : ℕ) → Over o p q u v → Over o q p v u
over_back o p q u v h = record { end = h.start; start = h.end; first = h.second; second = h.first }

pub over_turned : (o : ℕ → ℕ → ℕ → ℤ) (p q u v : ℕ) → Over o p q u v → Over o u v q p
over_turned o p q u v h = record { end = h.first; start = h.second; first = h.start; second = h.end }

-- the closed triangle
abbrev pub Inside : (o : ℕ → ℕ → ℕ → ℤ) (p q r s : ℕ) → Type 0
Inside o p q r s = (pos 0 ≤ℤ o p q s) × (pos 0 ≤ℤ o q r s) × (pos 0 ≤ℤ o r p s)

-- a turned sign that isn't positive
turned_weak : (x y : ℤ) → x ≡ neg_ℤ y → x ≤ℤ pos 0 → pos 0 ≤ℤ y
turned_weak x y e h = omega (arith, ints)

turned_weak_low : (x y : ℤ) → x ≡ neg_ℤ y → pos 0 ≤ℤ x → y ≤ℤ pos 0
turned_weak_low x y e h = omega (arith, ints)

pub by_high : {P : Type 0} (x : ℤ) → (pos 0 <ℤ x → P) → (x ≤ℤ pos 0 → P) → P
by_high x f g = by_sign x f (λ p. g (omega (arith, ints))) (λ p. g (omega (arith, ints)))

-- a point on the right isn't weakly on the left
pub apart : {P : Type 0} (x y : ℤ) → x ≡ neg_ℤ y → pos 0 <ℤ x → pos 0 ≤ℤ y → P
apart x y e g h = absurd (omega (arith, ints))

module _ (o : ℕ → ℕ → ℕ → ℤ) (B : ℕ → ℕ → ℕ → Type 0) (L : Laws o B) where
  -- the last two turned round
  pub flip : (i j k : ℕ) → o i k j ≡ neg_ℤ (o i j k)
  flip i j k = sym (L.cycle i k j) ∙ sym (L.cycle k j i) ∙ L.swap i j k

  -- the signs of the same three points in another order
  pub rot : (i j k : ℕ) → pos 0 <ℤ o i j k → pos 0 <ℤ o j k i
  rot i j k h = positive_same (o i j k) (o j k i) (sym (L.cycle i j k)) h

  pub rot_back : (i j k : ℕ) → pos 0 <ℤ o i j k → pos 0 <ℤ o k i j
  rot_back i j k h = positive_same (o i j k) (o k i j) (L.cycle k i j) h

  pub low_first : (i j k : ℕ) → pos 0 <ℤ o i j k → o j i k <ℤ pos 0
  low_first i j k h = turned_low (o i j k) (o j i k) (L.swap j i k) h

  pub low_last : (i j k : ℕ) → pos 0 <ℤ o i j k → o i k j <ℤ pos 0
  low_last i j k h = turned_low (o i j k) (o i k j) (flip i k j) h

  pub low_ends : (i j k : ℕ) → pos 0 <ℤ o i j k → o k j i <ℤ pos 0
  low_ends i j k h = low_last k i j (rot_back i j k h)

  pub high_first : (i j k : ℕ) → o i j k <ℤ pos 0 → pos 0 <ℤ o j i k
  high_first i j k h = turned_high (o i j k) (o j i k) (L.swap j i k) h

  pub weak_rot : (i j k : ℕ) → pos 0 ≤ℤ o i j k → pos 0 ≤ℤ o j k i
  weak_rot i j k h = weak_same (o i j k) (o j k i) (sym (L.cycle i j k)) h

  pub weak_rot_back : (i j k : ℕ) → pos 0 ≤ℤ o i j k → pos 0 ≤ℤ o k i j
  weak_rot_back i j k h = weak_same (o i j k) (o k i j) (L.cycle k i j) h

  pub weak_low_first : (i j k : ℕ) → pos 0 ≤ℤ o i j k → o j i k ≤ℤ pos 0
  weak_low_first i j k h = turned_weak_low (o i j k) (o j i k) (L.swap j i k) h

  pub weak_low_last : (i j k : ℕ) → pos 0 ≤ℤ o i j k → o i k j ≤ℤ pos 0
  weak_low_last i j k h = turned_weak_low (o i j k) (o i k j) (flip i k j) h

  pub weak_low_ends : (i j k : ℕ) → pos 0 ≤ℤ o i j k → o k j i ≤ℤ pos 0
  weak_low_ends i j k h = weak_low_last k i j (weak_rot_back i j k h)

  -- not strictly left of j to i is weakly left of i to j
  pub not_beyond : (i j k : ℕ) → o i j k ≤ℤ pos 0 → pos 0 ≤ℤ o j i k
  not_beyond i j k h = turned_weak (o i j k) (o j i k) (L.swap j i k) h

  -- u comes in over p-q, and v lies beyond q-r: then u lies on the near side of q-r
  near_second : (p q r u v : ℕ) → pos 0 <ℤ o p q r → Over o p q u v → pos 0 <ℤ o r q v → pos 0 <ℤ o q r u
  near_second p q r u v ccw h far =
      second_high (o q p v) (o q r u) (o q u v) (o q r p) (o q p u) (o q r v)
      (L.five q r p u v)
      (low_first p q v h.end) (low_ends v u q h.second) (rot p q r ccw) h.start (low_first r q v far)

  near_last : (p q r u v : ℕ) → pos 0 <ℤ o p q r → Over o p q u v → pos 0 <ℤ o p r v → pos 0 <ℤ o r p u
  near_last p q r u v ccw h far =
      high_first p r u
      (second_low (o p q v) (o p r u) (o p u v) (o p r q) (o p q u) (o p r v)
      (L.five p r q u v)
      h.end (rot_back u v p h.first) (low_last p q r ccw) (low_first q p u h.start) far)

  -- u comes in over p-q, and passes r on its left: v is not beyond r-p where it isn't beyond q-r
  within_last : (p q r u v : ℕ) → Over o p q u v → pos 0 ≤ℤ o u v r → pos 0 ≤ℤ o q r v → pos 0 ≤ℤ o r p v
  within_last p q r u v h side near =
      not_beyond p r v
      (first_weak_as (o v p r) (o p r v) (L.cycle v p r)
      (first_weak (o v p r) (o v q u) (o v u r) (o v q p) (o v p u) (o v q r)
      (L.five v q p u r)
      (low_last v u q h.second) (weak_low_first u v r side) (low_ends p q v h.end) (rot u v p h.first) (weak_rot_back q r v near)))
    where
      first_weak_as : (x y : ℤ) → y ≡ x → x ≤ℤ pos 0 → y ≤ℤ pos 0
      first_weak_as x y e g = omega (arith, ints)

  within_second : (p q r u v : ℕ) → Over o p q u v → pos 0 ≤ℤ o v u r → pos 0 ≤ℤ o r p v → pos 0 ≤ℤ o q r v
  within_second p q r u v h side near =
      weak_rot v q r
      (last_weak (o v p r) (o v q u) (o v u r) (o v q p) (o v p u) (o v q r)
      (L.five v q p u r)
      (weak_low_ends r p v near) (low_last v u q h.second) side (low_ends p q v h.end) (rot u v p h.first))

  pub zero_first : (i j : ℕ) → o i j i ≡ pos 0
  zero_first i j = L.cycle i i j ∙ zero_of_own (o i i j) (L.swap i i j)

  pub zero_second : (i j : ℕ) → o i j j ≡ pos 0
  zero_second i j = sym (L.cycle i j j) ∙ zero_of_own (o j j i) (L.swap j j i)

  -- a point left of i to j is neither of the two
  pub left_first : (i j k : ℕ) → pos 0 <ℤ o i j k → k ≢ i
  left_first i j k h e = zero_not_positive (o i j i) (zero_first i j) (subst (λ x. pos 0 <ℤ o i j x) e h)

  pub left_second : (i j k : ℕ) → pos 0 <ℤ o i j k → k ≢ j
  left_second i j k h e = zero_not_positive (o i j j) (zero_second i j) (subst (λ x. pos 0 <ℤ o i j x) e h)

  -- A segment that enters a triangle over the side p-q ends in the closed triangle, or leaves it over one of the other two
  -- sides, or through the corner between them.
  pub exit : {P : Type 0} (p q r u v : ℕ) → pos 0 <ℤ o p q r → Over o p q u v
      → (Inside o p q r v → P) → (Over o r q u v → P) → (Over o p r u v → P) → (B r u v → P) → P
  exit p q r u v ccw h ends second last through =
      by_sign (o u v r)
      (λ s. by_high (o r q v)
      (λ t. second (record { end = t; start = near_second p q r u v ccw h t; first = s; second = h.second }))
      (λ t. ends (on_left (weak_of_positive (o u v r) s) (not_beyond r q v t))))
      (λ s. by_high (o r q v)
      (λ t. through (L.found q u v r s t (near_second p q r u v ccw h t)))
      (λ t. ends (on_left (zero_weak (o u v r) s) (not_beyond r q v t))))
      (λ s. by_high (o p r v)
      (λ t. last (record { end = t; start = near_last p q r u v ccw h t; first = h.first; second = high_first u v r s }))
      (λ t. ends (on_right (weak_of_positive (o v u r) (high_first u v r s)) (not_beyond p r v t))))
    where
      zero_weak : (x : ℤ) → x ≡ pos 0 → pos 0 ≤ℤ x
      zero_weak x e = omega (arith, ints)

      on_left : pos 0 ≤ℤ o u v r → pos 0 ≤ℤ o q r v → Inside o p q r v
      on_left s t = (weak_of_positive (o p q v) h.end, t, within_last p q r u v h s t)

      on_right : pos 0 ≤ℤ o v u r → pos 0 ≤ℤ o r p v → Inside o p q r v
      on_right s t = (weak_of_positive (o p q v) h.end, within_second p q r u v h s t, t)

  -- of two triangles on one side of p-q one has the other's third corner, or sides of theirs cross
  pub two_on_side : {P : Type 0} (p q r s : ℕ) → pos 0 <ℤ o p q r → pos 0 <ℤ o p q s
      → (Over o r q p s → P) → (Over o p r q s → P) → (Inside o p q r s → P) → (Inside o p q s r → P) → P
  two_on_side p q r s hr hs second last has had =
      by_high (o r q s)
      (λ a. by_high (o r p s)
      (λ b. second (record { end = a; start = rot p q r hr; first = rot r p s b; second = rot_back p q s hs }))
      (λ b. had (weak_of_positive (o p q r) hr, weak_of_positive (o q s r) (rot r q s a), weak_rot_back p r s (not_beyond r p s b))))
      (λ a. by_high (o p r s)
      (λ b. by_high (o q r s)
      (λ c. last (record { end = b; start = rot_back p q r hr; first = rot p q s hs; second = rot_back q r s c }))
      (λ c. had (weak_of_positive (o p q r) hr, weak_rot r q s (not_beyond q r s c), weak_of_positive (o s p r) (rot_back p r s b))))
      (λ b. has (weak_of_positive (o p q s) hs, not_beyond r q s a, not_beyond p r s b)))

  -- Where a d b c is a strictly convex quadrilateral, the triangle c d b lies in the triangles a b c and b a d.
  pub half : {P : Type 0} (a b c d s : ℕ) → pos 0 <ℤ o a b c → pos 0 <ℤ o b a d → pos 0 <ℤ o d c a → pos 0 <ℤ o c d b
      → Inside o c d b s → (Inside o a b c s → P) → (Inside o b a d s → P) → P
  half a b c d s hc hd ha hb h left right =
      by_high (o b a s)
      (λ t. right (
        weak_of_positive (o b a s) t,
        not_beyond d a s
            (last_low (o d c s) (o d a b) (o d b s) (o d a c) (o d c b) (o d a s)
            (L.five d a c b s)
            (weak_low_first c d s h.0) (low_ends b a d hd) h.1 (low_last d c a ha) (low_first c d b hb)),
        h.1,
      ))
      (λ t. left (
        not_beyond b a s t,
        h.2,
        last_high (o c d s) (o c a b) (o c b s) (o c a d) (o c d b) (o c a s)
            (L.five c a d b s)
            h.0 (rot_back a b c hc) (weak_low_first b c s h.2) (rot d c a ha) hb,
      ))

  -- two segments cross exactly where one crosses the other from right to left, or from left to right
  pub over_of : {P : Type 0} (p q u v : ℕ) → AreOpposite (o p q u) (o p q v) → AreOpposite (o u v p) (o u v q) → (Over o p q u v → P) → (Over o q p u v → P) → P
  over_of p q u v (inl g) (inl h) f k = absurd (wrong (o p q u) (o p q v) (o u v p) (o u v q) (o p u v) (o q u v) (L.cycle p u v) (L.cycle q u v) (L.four p q u v) g.0 g.1 h.0 h.1)
    where
      wrong : (w x y z y' z' : ℤ) → y ≡ y' → z ≡ z' → w +ℤ y' ≡ x +ℤ z' → w <ℤ pos 0 → pos 0 <ℤ x → y <ℤ pos 0 → pos 0 <ℤ z → ⊥
      wrong w x y z y' z' ey ez e hw hx hy hz = omega (arith, ints)
  over_of p q u v (inl g) (inr h) f k = f (record { end = g.1; start = high_first p q u g.0; first = h.0; second = high_first u v q h.1 })
  over_of p q u v (inr g) (inl h) f k = k (record { end = high_first p q v g.1; start = g.0; first = h.1; second = high_first u v p h.0 })
  over_of p q u v (inr g) (inr h) f k = absurd (wrong (o p q u) (o p q v) (o u v p) (o u v q) (o p u v) (o q u v) (L.cycle p u v) (L.cycle q u v) (L.four p q u v) g.0 g.1 h.0 h.1)
    where
      wrong : (w x y z y' z' : ℤ) → y ≡ y' → z ≡ z' → w +ℤ y' ≡ x +ℤ z' → pos 0 <ℤ w → x <ℤ pos 0 → pos 0 <ℤ y → z <ℤ pos 0 → ⊥
      wrong w x y z y' z' ey ez e hw hx hy hz = omega (arith, ints)

  pub over_cross : (p q u v : ℕ) → Over o p q u v → AreOpposite (o p q u) (o p q v) × AreOpposite (o u v p) (o u v q)
  over_cross p q u v h = (inl (low_first q p u h.start, h.end), inr (h.first, low_first v u q h.second))

  pub over_cross_back : (p q u v : ℕ) → Over o q p u v → AreOpposite (o p q u) (o p q v) × AreOpposite (o u v p) (o u v q)
  over_cross_back p q u v h = (inr (h.start, low_first q p v h.end), inl (low_first v u p h.second, h.first))
