-- Whole numbers: products over sums and differences.
use Rattle.std.proofs.Common.{◌≡◌, suc, zero, ℤ, pos, negsuc, ◌+ℤ◌, ◌-ℤ◌, ◌*ℤ◌, neg_ℤ, arith, sym, ◌∙◌, refl, ap, ◌⊎◌, inl, inr}
use Rattle.std.proofs.Math.IntN.{ℤ_ind, suc_ℤ-*ℤ, pred_ℤ-*ℤ, +ℤ_one, -ℤ_one, zero-*ℤ, *ℤ_comm, suc_ℤ, pred_ℤ}
use Rattle.std.proofs.lemmas.Int.{ints}

more : (p q r s t : ℤ) → p ≡ q +ℤ r → p +ℤ (s +ℤ t) ≡ (q +ℤ s) +ℤ (r +ℤ t)
more p q r s t h = omega (arith, ints)

less : (p q r s t : ℤ) → p ≡ q +ℤ r → p -ℤ (s +ℤ t) ≡ (q -ℤ s) +ℤ (r -ℤ t)
less p q r s t h = omega (arith, ints)

up_one : (k m b c : ℤ) → m ≡ suc_ℤ k → k *ℤ (b +ℤ c) ≡ k *ℤ b +ℤ k *ℤ c → m *ℤ (b +ℤ c) ≡ m *ℤ b +ℤ m *ℤ c
up_one k m b c e h = rw (e, suc_ℤ-*ℤ k (b +ℤ c), suc_ℤ-*ℤ k b, suc_ℤ-*ℤ k c) (more (k *ℤ (b +ℤ c)) (k *ℤ b) (k *ℤ c) b c h)

down_one : (k m b c : ℤ) → m ≡ pred_ℤ k → k *ℤ (b +ℤ c) ≡ k *ℤ b +ℤ k *ℤ c → m *ℤ (b +ℤ c) ≡ m *ℤ b +ℤ m *ℤ c
down_one k m b c e h = rw (e, pred_ℤ-*ℤ k (b +ℤ c), pred_ℤ-*ℤ k b, pred_ℤ-*ℤ k c) (less (k *ℤ (b +ℤ c)) (k *ℤ b) (k *ℤ c) b c h)

-- a product with a sum
pub mul_add : (a b c : ℤ) → a *ℤ (b +ℤ c) ≡ a *ℤ b +ℤ a *ℤ c
mul_add a b c =
    ℤ_ind (λ (k : ℤ). k *ℤ (b +ℤ c) ≡ k *ℤ b +ℤ k *ℤ c)
    (rw (zero-*ℤ (b +ℤ c), zero-*ℤ b, zero-*ℤ c) refl)
    (λ n h. up_one (pos n) (pos n +ℤ pos 1) b c (+ℤ_one (pos n)) h)
    (λ n h. down_one (neg_ℤ (pos n)) (neg_ℤ (pos n) +ℤ neg_ℤ (pos 1)) b c (-ℤ_one (neg_ℤ (pos n))) h)
    a

neg_alone : (p q : ℤ) → p +ℤ q ≡ pos 0 → q ≡ neg_ℤ p
neg_alone p q h = omega (arith, ints)

cancels : (c : ℤ) → c +ℤ neg_ℤ c ≡ pos 0
cancels c = omega (arith, ints)

pub mul_neg : (a c : ℤ) → a *ℤ neg_ℤ c ≡ neg_ℤ (a *ℤ c)
mul_neg a c = neg_alone (a *ℤ c) (a *ℤ neg_ℤ c) (sym (mul_add a c (neg_ℤ c)) ∙ ap (λ x. a *ℤ x) (cancels c) ∙ (*ℤ_comm a (pos 0) ∙ zero-*ℤ a))

pub add_mul : (a b c : ℤ) → (a +ℤ b) *ℤ c ≡ a *ℤ c +ℤ b *ℤ c
add_mul a b c = *ℤ_comm (a +ℤ b) c ∙ mul_add c a b ∙ ap (λ x. x +ℤ c *ℤ b) (*ℤ_comm c a) ∙ ap (λ x. a *ℤ c +ℤ x) (*ℤ_comm c b)

pub neg_mul : (a c : ℤ) → neg_ℤ a *ℤ c ≡ neg_ℤ (a *ℤ c)
neg_mul a c = *ℤ_comm (neg_ℤ a) c ∙ mul_neg c a ∙ ap neg_ℤ (*ℤ_comm c a)

pub neg_mul_neg : (a b : ℤ) → neg_ℤ a *ℤ neg_ℤ b ≡ a *ℤ b
neg_mul_neg a b = omega (arith, ints, neg_mul a (neg_ℤ b), mul_neg a b)

-- a product with a difference
pub mul_sub : (a b c : ℤ) → a *ℤ (b -ℤ c) ≡ a *ℤ b -ℤ a *ℤ c
mul_sub a b c = mul_add a b (neg_ℤ c) ∙ ap (λ x. a *ℤ b +ℤ x) (mul_neg a c)

pub sub_mul : (a b c : ℤ) → (a -ℤ b) *ℤ c ≡ a *ℤ c -ℤ b *ℤ c
sub_mul a b c = *ℤ_comm (a -ℤ b) c ∙ mul_sub c a b ∙ ap (λ x. x -ℤ c *ℤ b) (*ℤ_comm c a) ∙ ap (λ x. a *ℤ c -ℤ x) (*ℤ_comm c b)

-- a product of two differences
pub mul_differences : (a b c d : ℤ) → (a -ℤ b) *ℤ (c -ℤ d) ≡ (a *ℤ c -ℤ a *ℤ d) -ℤ (b *ℤ c -ℤ b *ℤ d)
mul_differences a b c d =
    let left : (x : ℤ) → (a -ℤ b) *ℤ x ≡ a *ℤ x -ℤ b *ℤ x =
    λ x. *ℤ_comm (a -ℤ b) x ∙ mul_add x a (neg_ℤ b) ∙ ap (λ y. x *ℤ a +ℤ y) (mul_neg x b) ∙ ap (λ y. y -ℤ x *ℤ b) (*ℤ_comm x a) ∙ ap (λ y. a *ℤ x -ℤ y) (*ℤ_comm x b) in
    let right : (x : ℤ) → x *ℤ (c -ℤ d) ≡ x *ℤ c -ℤ x *ℤ d =
    λ x. mul_add x c (neg_ℤ d) ∙ ap (λ y. x *ℤ c +ℤ y) (mul_neg x d) in
    left (c -ℤ d) ∙ ap (λ y. y -ℤ b *ℤ (c -ℤ d)) (right a) ∙ ap (λ y. (a *ℤ c -ℤ a *ℤ d) -ℤ y) (right b)

up_product : (k m b c : ℤ) → m ≡ suc_ℤ k → (k *ℤ b) *ℤ c ≡ k *ℤ (b *ℤ c) → (m *ℤ b) *ℤ c ≡ m *ℤ (b *ℤ c)
up_product k m b c e h = rw (e, suc_ℤ-*ℤ k b, suc_ℤ-*ℤ k (b *ℤ c)) (add_mul (k *ℤ b) b c ∙ ap (λ x. x +ℤ b *ℤ c) h)

down_product : (k m b c : ℤ) → m ≡ pred_ℤ k → (k *ℤ b) *ℤ c ≡ k *ℤ (b *ℤ c) → (m *ℤ b) *ℤ c ≡ m *ℤ (b *ℤ c)
down_product k m b c e h = rw (e, pred_ℤ-*ℤ k b, pred_ℤ-*ℤ k (b *ℤ c)) (add_mul (k *ℤ b) (neg_ℤ b) c ∙ ap (λ x. x +ℤ neg_ℤ b *ℤ c) h ∙ ap (λ x. k *ℤ (b *ℤ c) +ℤ x) (neg_mul b c))

pub mul_assoc : (a b c : ℤ) → (a *ℤ b) *ℤ c ≡ a *ℤ (b *ℤ c)
mul_assoc a b c =
    ℤ_ind (λ (k : ℤ). (k *ℤ b) *ℤ c ≡ k *ℤ (b *ℤ c))
    (rw (zero-*ℤ b, zero-*ℤ c, zero-*ℤ (b *ℤ c)) refl)
    (λ n h. up_product (pos n) (pos n +ℤ pos 1) b c (+ℤ_one (pos n)) h)
    (λ n h. down_product (neg_ℤ (pos n)) (neg_ℤ (pos n) +ℤ neg_ℤ (pos 1)) b c (-ℤ_one (neg_ℤ (pos n))) h)
    a

pub mul_left_comm : (a b c : ℤ) → a *ℤ (b *ℤ c) ≡ b *ℤ (a *ℤ c)
mul_left_comm a b c = sym (mul_assoc a b c) ∙ ap (λ x. x *ℤ c) (*ℤ_comm a b) ∙ mul_assoc b a c

-- a product is 0 only where a factor is
pub zero_factor : (a b : ℤ) → a *ℤ b ≡ pos 0 → (a ≡ pos 0) ⊎ (b ≡ pos 0)
zero_factor (pos zero) b h = inl refl
zero_factor (pos (suc m)) (pos zero) h = inr refl
zero_factor (pos (suc m)) (pos (suc n)) h = absurd (grind arith)
zero_factor (pos (suc m)) (negsuc n) h = absurd (grind arith)
zero_factor (negsuc m) (pos zero) h = inr refl
zero_factor (negsuc m) (pos (suc n)) h = absurd (grind arith)
zero_factor (negsuc m) (negsuc n) h = absurd (grind arith)
