-- Points that lie in one direction from a point: the same points are left of the lines to them, and opposite to them.
use Rattle.std.proofs.Common.{◌≡◌, ◌≢◌, ℤ, pos, ◌+ℤ◌, ◌-ℤ◌, ◌*ℤ◌, ◌<ℤ◌, ◌⊎◌, inl, inr, arith, sym, ◌∙◌, ap}
use Rattle.std.proofs.lemmas.Int.{ints}
use Rattle.std.proofs.Math.IntN.{*ℤ_comm}
use Rattle.plane.specs.declared.coordinates.Point.{Point}
use Rattle.plane.specs.Geometry.{area, scalar, LiesBetween}
use Rattle.number_laws.proofs.Products.{mul_add, mul_sub, add_mul, mul_assoc}
use Rattle.number_laws.proofs.Signs.{positive_positive, positive_negative, negative_negative, zero_left, zero_right, difference_zero, by_sign, cancel_strict, cancel_zero}
use Rattle.plane.proofs.laws.Area.{area_back}
use Rattle.plane.proofs.laws.Line.{same_point}

-- the step from p to m, k times, is the step from p to q, n times, and both numbers are positive
pub record IsAlong (k n : ℤ) (p q m : Point) : Type 0 where
  pub k_positive : pos 0 <ℤ k
  pub n_positive : pos 0 <ℤ n
  pub across : k *ℤ (m.x -ℤ p.x) ≡ n *ℤ (q.x -ℤ p.x)
  pub upward : k *ℤ (m.y -ℤ p.y) ≡ n *ℤ (q.y -ℤ p.y)

square_or : (a : ℤ) → (pos 0 <ℤ (a *ℤ a)) ⊎ ((a ≡ pos 0) × (a *ℤ a ≡ pos 0))
square_or a = by_sign a (λ h. inl (positive_positive a a h h)) (λ z. inr (z, zero_left a a z)) (λ h. inl (negative_negative a a h h))

-- a step that leads elsewhere has a positive square
positive_square : (x y : ℤ) → ¬ ((x ≡ pos 0) × (y ≡ pos 0)) → pos 0 <ℤ (x *ℤ x +ℤ y *ℤ y)
positive_square x y off = elim (square_or x) [
  | inl h ↦ elim (square_or y) [ inl k ↦ omega (arith, ints) | inr k ↦ omega (arith, ints, k.1) ]
  | inr h ↦ elim (square_or y) [ inl k ↦ omega (arith, ints, h.1) | inr k ↦ absurd (off (h.0, k.0)) ]
]

-- of two steps in line, the second times their scalar product is the first times the second's square
scaled_step : (ux uy vx vy k n : ℤ) → ux *ℤ vy ≡ uy *ℤ vx → k ≡ ux *ℤ vx +ℤ uy *ℤ vy → n ≡ vx *ℤ vx +ℤ vy *ℤ vy → k *ℤ vx ≡ n *ℤ ux
scaled_step ux uy vx vy k n line ek en =
    let far : (ux *ℤ vx) *ℤ vx ≡ (vx *ℤ vx) *ℤ ux = mul_assoc ux vx vx ∙ *ℤ_comm ux (vx *ℤ vx) in
    let near : (uy *ℤ vy) *ℤ vx ≡ (vy *ℤ vy) *ℤ ux =
    ap (λ z. z *ℤ vx) (*ℤ_comm uy vy) ∙ mul_assoc vy uy vx ∙ ap (λ z. vy *ℤ z) (sym line ∙ *ℤ_comm ux vy) ∙ sym (mul_assoc vy vy ux) in
    ap (λ z. z *ℤ vx) ek ∙ add_mul (ux *ℤ vx) (uy *ℤ vy) vx ∙ ap (λ z. z +ℤ (uy *ℤ vy) *ℤ vx) far ∙ ap (λ z. (vx *ℤ vx) *ℤ ux +ℤ z) near
    ∙ sym (add_mul (vx *ℤ vx) (vy *ℤ vy) ux) ∙ ap (λ z. z *ℤ ux) (sym en)

elsewhere : (p q : Point) → q ≢ p → ¬ ((q.x -ℤ p.x ≡ pos 0) × (q.y -ℤ p.y ≡ pos 0))
elsewhere p q apart h = apart (same_point q p (difference_zero q.x p.x h.0) (difference_zero q.y p.y h.1))

-- points in line with p that it isn't between lie in one direction from it
pub one_direction : (p q m : Point) → q ≢ p → m ≢ p → area p q m ≡ pos 0 → ¬ LiesBetween p q m → IsAlong (scalar p q m) (scalar p m m) p q m
unfolding area scalar
one_direction p q m hq hm line off =
    let ux = q.x -ℤ p.x in let uy = q.y -ℤ p.y in let vx = m.x -ℤ p.x in let vy = m.y -ℤ p.y in
    let k = ux *ℤ vx +ℤ uy *ℤ vy in let n = vx *ℤ vx +ℤ vy *ℤ vy in
    let even : ux *ℤ vy ≡ uy *ℤ vx = difference_zero (ux *ℤ vy) (uy *ℤ vx) line in
    let across : k *ℤ vx ≡ n *ℤ ux = scaled_step ux uy vx vy k n even (omega (arith, ints)) (omega (arith, ints)) in
    let upward : k *ℤ vy ≡ n *ℤ uy = scaled_step uy ux vy vx k n (sym even) (omega (arith, ints)) (omega (arith, ints)) in
    let long : pos 0 <ℤ n = positive_square vx vy (elsewhere p m hm) in
    record {
      k_positive = by_sign k (λ h. h)
          (λ z. absurd (elsewhere p q hq (cancel_zero n ux long (sym across ∙ zero_left k vx z), cancel_zero n uy long (sym upward ∙ zero_left k vy z))))
          (λ h. absurd (off (let e = area_back p q m in omega (arith, ints), h)));
      n_positive = long;
      across = across;
      upward = upward;
    }

carried : (k v n u w : ℤ) → k *ℤ v ≡ n *ℤ u → k *ℤ (v *ℤ w) ≡ n *ℤ (u *ℤ w)
carried k v n u w e = sym (mul_assoc k v w) ∙ ap (λ z. z *ℤ w) e ∙ mul_assoc n u w

along_area : (k n : ℤ) (p q m r : Point) → IsAlong k n p q m → k *ℤ area p m r ≡ n *ℤ area p q r
unfolding area
along_area k n p q m r h =
    let rx = r.x -ℤ p.x in let ry = r.y -ℤ p.y in
    mul_sub k ((m.x -ℤ p.x) *ℤ ry) ((m.y -ℤ p.y) *ℤ rx)
    ∙ ap (λ z. z -ℤ k *ℤ ((m.y -ℤ p.y) *ℤ rx)) (carried k (m.x -ℤ p.x) n (q.x -ℤ p.x) ry h.across)
    ∙ ap (λ z. n *ℤ ((q.x -ℤ p.x) *ℤ ry) -ℤ z) (carried k (m.y -ℤ p.y) n (q.y -ℤ p.y) rx h.upward)
    ∙ sym (mul_sub n ((q.x -ℤ p.x) *ℤ ry) ((q.y -ℤ p.y) *ℤ rx))

along_scalar : (k n : ℤ) (p q m r : Point) → IsAlong k n p q m → k *ℤ scalar p m r ≡ n *ℤ scalar p q r
unfolding scalar
along_scalar k n p q m r h =
    let rx = r.x -ℤ p.x in let ry = r.y -ℤ p.y in
    mul_add k ((m.x -ℤ p.x) *ℤ rx) ((m.y -ℤ p.y) *ℤ ry)
    ∙ ap (λ z. z +ℤ k *ℤ ((m.y -ℤ p.y) *ℤ ry)) (carried k (m.x -ℤ p.x) n (q.x -ℤ p.x) rx h.across)
    ∙ ap (λ z. n *ℤ ((q.x -ℤ p.x) *ℤ rx) +ℤ z) (carried k (m.y -ℤ p.y) n (q.y -ℤ p.y) ry h.upward)
    ∙ sym (mul_add n ((q.x -ℤ p.x) *ℤ rx) ((q.y -ℤ p.y) *ℤ ry))

same_positive : (k n a b : ℤ) → pos 0 <ℤ k → pos 0 <ℤ n → k *ℤ a ≡ n *ℤ b → pos 0 <ℤ a → pos 0 <ℤ b
same_positive k n a b hk hn e ha = cancel_strict n b hn (let h = positive_positive k a hk ha in omega (arith, ints))

same_negative : (k n a b : ℤ) → pos 0 <ℤ k → pos 0 <ℤ n → k *ℤ a ≡ n *ℤ b → a <ℤ pos 0 → b <ℤ pos 0
same_negative k n a b hk hn e ha =
    let h = positive_negative k a hk ha in
    by_sign b (λ c. absurd (let g = positive_positive n b hn c in omega (arith, ints))) (λ z. absurd (let g = zero_right n b z in omega (arith, ints))) (λ c. c)

-- what is left of the line to the one is left of the line to the other, and likewise what is opposite
pub left_along : (k n : ℤ) (p q m r : Point) → IsAlong k n p q m → pos 0 <ℤ area p m r → pos 0 <ℤ area p q r
left_along k n p q m r h = same_positive k n (area p m r) (area p q r) h.k_positive h.n_positive (along_area k n p q m r h)

pub opposite_along : (k n : ℤ) (p q m r : Point) → IsAlong k n p q m → LiesBetween p m r → LiesBetween p q r
opposite_along k n p q m r h on =
    let flat : area p m r ≡ pos 0 = (let e = area_back p m r in omega (arith, ints, on.0)) in
    let line : area p q r ≡ pos 0 = cancel_zero n (area p q r) h.n_positive (sym (along_area k n p q m r h) ∙ zero_right k (area p m r) flat) in
    (let e = area_back p q r in omega (arith, ints), same_negative k n (scalar p m r) (scalar p q r) h.k_positive h.n_positive (along_scalar k n p q m r h) on.1)
