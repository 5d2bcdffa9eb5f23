-- A strictly convex quadrilateral of two triangles without further points: its other diagonal, and the two new triangles.
use Rattle.std.proofs.Common.{◌≡◌, ◌≢◌, ℕ, ℤ, pos, ◌<◌, inl, inr, subst, arith}
use Rattle.std.specs.Prelude.{◌<ℤ◌, ◌≤ℤ◌}
use Rattle.std.proofs.lemmas.Bool.{cases_order}
use Rattle.plane_laws.proofs.Field.{Laws, Over, Inside, apart, rot_back, left_first, left_second, zero_second, exit, half}
use Rattle.number_laws.proofs.Signs.{weak_of_zero, weak_of_positive, zero_not_positive}

pub same_or : {P : Type 0} (i j : ℕ) → (i ≡ j → P) → (i ≢ j → P) → P
same_or i j f g = elim (cases_order i j) [ inl e ↦ f e | inr q ↦ elim q [ inl h ↦ g (λ e. omega arith) | inr h ↦ g (λ e. omega arith) ] ]

-- no further point is in the triangle
abbrev pub Empty : (n : ℕ) (o : ℕ → ℕ → ℕ → ℤ) (p q r : ℕ) → Type 0
Empty n o p q r = (s : ℕ) → s < n → s ≢ p → s ≢ q → s ≢ r → ¬ Inside o p q r s

pub empty_next : (n : ℕ) (o : ℕ → ℕ → ℕ → ℤ) (p q r : ℕ) → Empty n o p q r → Empty n o q r p
empty_next n o p q r h s sn a b c g = h s sn c a b (g.2, g.0, g.1)

-- the triangles a b c and b a d are empty, and a and b lie on the two sides of c-d
pub record Four (n : ℕ) (o : ℕ → ℕ → ℕ → ℤ) (a b c d : ℕ) : Type 0 where
  pub left : pos 0 <ℤ o a b c
  pub right : pos 0 <ℤ o b a d
  pub first : pos 0 <ℤ o d c a
  pub second : pos 0 <ℤ o c d b
  pub left_empty : Empty n o a b c
  pub right_empty : Empty n o b a d

-- the same from the other end
pub four_turned : (n : ℕ) (o : ℕ → ℕ → ℕ → ℤ) (a b c d : ℕ) → Four n o a b c d → Four n o b a d c
four_turned n o a b c d Q = record { left = Q.right; right = Q.left; first = Q.second; second = Q.first; left_empty = Q.right_empty; right_empty = Q.left_empty }

-- the diagonals cross
pub over_after : (n : ℕ) (o : ℕ → ℕ → ℕ → ℤ) (a b c d : ℕ) → Four n o a b c d → Over o c d a b
over_after n o a b c d Q = record { end = Q.second; start = Q.first; first = Q.left; second = Q.right }

module _ (n : ℕ) (o : ℕ → ℕ → ℕ → ℤ) (B : ℕ → ℕ → ℕ → Type 0) (L : Laws o B) where
  -- the new triangle c d b has no further point
  pub empty_after : (a b c d : ℕ) → Four n o a b c d → Empty n o c d b
  empty_after a b c d Q s sn nc nd nb h =
      half o B L a b c d s Q.left Q.right Q.first Q.second h
      (λ g. Q.left_empty s sn na nb nc g)
      (λ g. Q.right_empty s sn nb na nd g)
    where
      na : s ≢ a
      na e = apart (o d c a) (o c d a) (L.swap c d a) Q.first (subst (λ x. pos 0 ≤ℤ o c d x) e h.0)

  -- the other diagonal is clear
  pub clear_after : (a b c d : ℕ) → Four n o a b c d → (k : ℕ) → k < n → ¬ B k c d
  clear_after a b c d Q k kn h =
      let (x, y) = L.cut b k c d h (rot_back o B L c d b Q.second) in
      empty_after a b c d Q k kn
      (λ e. zero_not_positive (o b c c) (zero_second o B L b c) (subst (λ z. pos 0 <ℤ o b c z) e x))
      (left_last y)
      (λ e. zero_not_positive (o c d b) (subst (λ z. o c d z ≡ pos 0) e (L.on k c d h)) Q.second)
      (weak_of_zero (o c d k) (L.on k c d h), weak_of_positive (o d b k) (rot_back o B L b k d y), weak_of_positive (o b c k) x)
    where
      left_last : pos 0 <ℤ o b k d → k ≢ d
      left_last y e = zero_not_positive (o b d d) (zero_second o B L b d) (subst (λ z. pos 0 <ℤ o b z d) e y)

  -- a segment that crosses the other diagonal ends at b, crosses one of the two sides at b, or goes through b
  pub end_after : {P : Type 0} (a b c d u v : ℕ) → Four n o a b c d → v < n → Over o c d u v
      → (v ≡ b → P) → (Over o b d u v → P) → (Over o c b u v → P) → (B b u v → P) → P
  end_after a b c d u v Q vn x at first second through =
      exit o B L c d b u v Q.second x
      (λ g. same_or v b at
      (λ ne. absurd (empty_after a b c d Q v vn (left_first o B L c d v x.end) (left_second o B L c d v x.end) ne g)))
      first second through
