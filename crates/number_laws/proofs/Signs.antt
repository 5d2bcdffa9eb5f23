-- Signs of whole numbers and of their products.
use Rattle.std.proofs.Common.{◌≡◌, suc, zero, ℤ, pos, negsuc, ◌-ℤ◌, ◌*ℤ◌, neg_ℤ, ◌<ℤ◌, ◌≤ℤ◌, ◌⊎◌, inl, inr, arith, sym, ◌∙◌, refl, ap}
use Rattle.std.proofs.lemmas.Int.{ints}
use Rattle.std.proofs.Math.IntN.{*ℤ_comm, zero-*ℤ, pos-*ℤ-pos}
use Rattle.number_laws.proofs.Products.{mul_neg, mul_assoc}

pub negative_or : (a : ℤ) → (a <ℤ pos 0) ⊎ ((a ≡ pos 0) ⊎ (pos 0 <ℤ a))
negative_or (pos zero) = inr (inl refl)
negative_or (pos (suc n)) = inr (inr (omega (arith, ints)))
negative_or (negsuc n) = inl (omega (arith, ints))

pub by_sign : {P : Type 0} (b : ℤ) → (pos 0 <ℤ b → P) → (b ≡ pos 0 → P) → (b <ℤ pos 0 → P) → P
by_sign (pos zero) f g h = g refl
by_sign (pos (suc n)) f g h = f (omega (arith, ints))
by_sign (negsuc n) f g h = h (omega (arith, ints))

pub positive_positive : (a b : ℤ) → pos 0 <ℤ a → pos 0 <ℤ b → pos 0 <ℤ (a *ℤ b)
positive_positive (pos zero) b ha hb = absurd (omega (arith, ints))
positive_positive (pos (suc m)) (pos zero) ha hb = absurd (omega (arith, ints))
positive_positive (pos (suc m)) (pos (suc n)) ha hb = grind (arith, ints)
positive_positive (pos (suc m)) (negsuc n) ha hb = absurd (omega (arith, ints))
positive_positive (negsuc m) b ha hb = absurd (omega (arith, ints))

pub positive_negative : (a b : ℤ) → pos 0 <ℤ a → b <ℤ pos 0 → (a *ℤ b) <ℤ pos 0
positive_negative a b ha hb = let h = positive_positive a (neg_ℤ b) ha (omega (arith, ints)) in omega (arith, ints, h, mul_neg a b)

pub negative_positive : (a b : ℤ) → a <ℤ pos 0 → pos 0 <ℤ b → (a *ℤ b) <ℤ pos 0
negative_positive a b ha hb = let e = *ℤ_comm a b in let h = positive_negative b a hb ha in omega (arith, ints)

pub negative_negative : (a b : ℤ) → a <ℤ pos 0 → b <ℤ pos 0 → pos 0 <ℤ (a *ℤ b)
negative_negative a b ha hb = let h = negative_positive a (neg_ℤ b) ha (omega (arith, ints)) in omega (arith, ints, h, mul_neg a b)

pub zero_left : (a b : ℤ) → a ≡ pos 0 → a *ℤ b ≡ pos 0
zero_left a b e = ap (λ x. x *ℤ b) e ∙ zero-*ℤ b

pub zero_right : (a b : ℤ) → b ≡ pos 0 → a *ℤ b ≡ pos 0
zero_right a b e = *ℤ_comm a b ∙ zero_left b a e

pub difference_zero : (a b : ℤ) → a -ℤ b ≡ pos 0 → a ≡ b
difference_zero a b h = omega (arith, ints)

pub mul_weak : (a b : ℤ) → pos 0 ≤ℤ a → pos 0 ≤ℤ b → pos 0 ≤ℤ (a *ℤ b)
mul_weak (pos m) (pos n) h k = rw pos-*ℤ-pos (omega (arith, ints))
mul_weak (pos m) (negsuc n) h k = absurd (omega (arith, ints))
mul_weak (negsuc m) b h k = absurd (omega (arith, ints))

pub cancel_weak : (a b : ℤ) → pos 0 <ℤ a → pos 0 ≤ℤ (a *ℤ b) → pos 0 ≤ℤ b
cancel_weak a b ha h = by_sign b (λ p. omega (arith, ints)) (λ p. omega (arith, ints))
    (λ p. let q : pos 0 <ℤ (a *ℤ neg_ℤ b) = positive_positive a (neg_ℤ b) ha (omega (arith, ints)) in absurd (omega (arith, ints, mul_neg a b)))

pub cancel_strict : (a b : ℤ) → pos 0 <ℤ a → pos 0 <ℤ (a *ℤ b) → pos 0 <ℤ b
cancel_strict a b ha h = by_sign b (λ p. p) (λ p. absurd (omega (arith, ints, zero_right a b p)))
    (λ p. let q : pos 0 <ℤ (a *ℤ neg_ℤ b) = positive_positive a (neg_ℤ b) ha (omega (arith, ints)) in absurd (omega (arith, ints, mul_neg a b)))

pub zero_of_weak : (x : ℤ) → pos 0 ≤ℤ x → pos 0 ≤ℤ neg_ℤ x → x ≡ pos 0
zero_of_weak x g h = omega (arith, ints)

pub zero_of_both : (x : ℤ) → pos 0 ≤ℤ x → x ≤ℤ pos 0 → x ≡ pos 0
zero_of_both x g h = omega (arith, ints)

pub not_positive : (x : ℤ) → (pos 0 <ℤ x → ⊥) → x ≤ℤ pos 0
not_positive x f = by_sign x (λ h. absurd (f h)) (λ h. omega (arith, ints)) (λ h. omega (arith, ints))

pub zero_of_own : (x : ℤ) → x ≡ neg_ℤ x → x ≡ pos 0
zero_of_own x h = omega (arith, ints)

-- a square isn't negative
pub square_at_least : (a : ℤ) → pos 0 ≤ℤ (a *ℤ a)
square_at_least a = elim (negative_or a) [
  | inl h ↦ (let p = negative_negative a a h h in omega (arith, ints))
  | inr rest ↦ elim rest [ inl e ↦ (let z : a *ℤ a ≡ pos 0 = ap (λ x. x *ℤ a) e ∙ zero-*ℤ a in omega (arith, ints)) | inr h ↦ (let p = positive_positive a a h h in omega (arith, ints)) ]
]

exchange : (a b c d : ℤ) → (a *ℤ b) *ℤ (c *ℤ d) ≡ (a *ℤ d) *ℤ (c *ℤ b)
exchange a b c d =
    mul_assoc a b (c *ℤ d) ∙ ap (λ x. a *ℤ x) (*ℤ_comm b (c *ℤ d) ∙ ap (λ x. x *ℤ b) (*ℤ_comm c d) ∙ mul_assoc d c b) ∙ sym (mul_assoc a d (c *ℤ b))

pub products_agree : (a b c d : ℤ) → a *ℤ d -ℤ c *ℤ b ≡ pos 0 → pos 0 ≤ℤ ((a *ℤ b) *ℤ (c *ℤ d))
products_agree a b c d h =
    let e : (a *ℤ b) *ℤ (c *ℤ d) ≡ (a *ℤ d) *ℤ (a *ℤ d) = exchange a b c d ∙ ap (λ x. (a *ℤ d) *ℤ x) (sym (difference_zero (a *ℤ d) (c *ℤ b) h)) in
    let s = square_at_least (a *ℤ d) in
    omega (arith, ints)

pub weak_of_positive : (x : ℤ) → pos 0 <ℤ x → pos 0 ≤ℤ x
weak_of_positive x h = omega (arith, ints)

pub positive_of_neg : (x y : ℤ) → y ≡ neg_ℤ x → x <ℤ pos 0 → pos 0 <ℤ y
positive_of_neg x y e h = omega (arith, ints)

pub zero_of_neg : (x y : ℤ) → x ≡ neg_ℤ y → x ≡ pos 0 → y ≡ pos 0
zero_of_neg x y e h = omega (arith, ints)

pub zero_not_negative : {P : Type 0} (x : ℤ) → x ≡ pos 0 → x <ℤ pos 0 → P
zero_not_negative x e h = absurd (omega (arith, ints))

pub zero_not_positive : {P : Type 0} (x : ℤ) → x ≡ pos 0 → pos 0 <ℤ x → P
zero_not_positive x e h = absurd (omega (arith, ints))

pub cancel_zero : (a b : ℤ) → pos 0 <ℤ a → a *ℤ b ≡ pos 0 → b ≡ pos 0
cancel_zero a b ha h = zero_of_weak b (cancel_weak a b ha (omega (arith, ints))) (cancel_weak a (neg_ℤ b) ha (omega (arith, ints, mul_neg a b)))

pub weak_of_zero : (x : ℤ) → x ≡ pos 0 → pos 0 ≤ℤ x
weak_of_zero x e = omega (arith, ints)

pub positive_same : (x y : ℤ) → x ≡ y → pos 0 <ℤ x → pos 0 <ℤ y
positive_same x y e h = omega (arith, ints)

pub weak_same : (x y : ℤ) → x ≡ y → pos 0 ≤ℤ x → pos 0 ≤ℤ y
weak_same x y e h = omega (arith, ints)

-- one of a number and its negative is positive where the other is negative
pub turned_low : (x y : ℤ) → x ≡ neg_ℤ y → pos 0 <ℤ x → y <ℤ pos 0
turned_low x y e h = omega (arith, ints)

pub turned_high : (x y : ℤ) → x ≡ neg_ℤ y → x <ℤ pos 0 → pos 0 <ℤ y
turned_high x y e h = omega (arith, ints)

pub not_both_positive : {P : Type 0} (x y : ℤ) → x ≡ neg_ℤ y → pos 0 <ℤ x → pos 0 <ℤ y → P
not_both_positive x y e g h = absurd (omega (arith, ints))
