-- Signs in a sum of products: a b = c d + e f.
use Rattle.std.proofs.Common.{◌≡◌, ℤ, pos, ◌+ℤ◌, ◌*ℤ◌, arith}
use Rattle.std.specs.Prelude.{◌<ℤ◌, ◌≤ℤ◌}
use Rattle.std.proofs.lemmas.Int.{ints}
use Rattle.number_laws.proofs.Signs.{positive_positive, positive_negative, negative_positive, negative_negative, mul_weak, by_sign, zero_left, zero_right}

pub low_weak : (a b : ℤ) → a ≤ℤ pos 0 → b <ℤ pos 0 → pos 0 ≤ℤ (a *ℤ b)
low_weak a b h k = by_sign a
    (λ p. absurd (omega (arith, ints)))
    (λ p. omega (arith, ints, zero_left a b p))
    (λ p. omega (arith, ints, negative_negative a b p k))

pub high_low_weak : (a b : ℤ) → pos 0 ≤ℤ a → b <ℤ pos 0 → (a *ℤ b) ≤ℤ pos 0
high_low_weak a b h k = by_sign a
    (λ p. omega (arith, ints, positive_negative a b p k))
    (λ p. omega (arith, ints, zero_left a b p))
    (λ p. absurd (omega (arith, ints)))

pub low_high_weak : (a b : ℤ) → a ≤ℤ pos 0 → pos 0 <ℤ b → (a *ℤ b) ≤ℤ pos 0
low_high_weak a b h k = by_sign a
    (λ p. absurd (omega (arith, ints)))
    (λ p. omega (arith, ints, zero_left a b p))
    (λ p. omega (arith, ints, negative_positive a b p k))

pub high_weak : (a b : ℤ) → pos 0 ≤ℤ a → pos 0 <ℤ b → pos 0 ≤ℤ (a *ℤ b)
high_weak a b h k = by_sign a
    (λ p. omega (arith, ints, positive_positive a b p k))
    (λ p. omega (arith, ints, zero_left a b p))
    (λ p. absurd (omega (arith, ints)))

-- the second factor
pub second_high : (a b c d e f : ℤ) → a *ℤ b ≡ c *ℤ d +ℤ e *ℤ f → a <ℤ pos 0 → c <ℤ pos 0 → pos 0 <ℤ d → pos 0 <ℤ e → f <ℤ pos 0 → pos 0 <ℤ b
second_high a b c d e f h ha hc hd he hf =
    let p : (c *ℤ d) <ℤ pos 0 = negative_positive c d hc hd in
    let q : (e *ℤ f) <ℤ pos 0 = positive_negative e f he hf in
    by_sign b
    (λ s. s)
    (λ s. absurd (omega (arith, ints, zero_right a b s)))
    (λ s. absurd (omega (arith, ints, negative_negative a b ha s)))

pub second_low : (a b c d e f : ℤ) → a *ℤ b ≡ c *ℤ d +ℤ e *ℤ f → pos 0 <ℤ a → pos 0 <ℤ c → d <ℤ pos 0 → e <ℤ pos 0 → pos 0 <ℤ f → b <ℤ pos 0
second_low a b c d e f h ha hc hd he hf =
    let p : (c *ℤ d) <ℤ pos 0 = positive_negative c d hc hd in
    let q : (e *ℤ f) <ℤ pos 0 = negative_positive e f he hf in
    by_sign b
    (λ s. absurd (omega (arith, ints, positive_positive a b ha s)))
    (λ s. absurd (omega (arith, ints, zero_right a b s)))
    (λ s. s)

-- the first factor, from weak signs on the right
pub first_weak : (a b c d e f : ℤ) → a *ℤ b ≡ c *ℤ d +ℤ e *ℤ f → b <ℤ pos 0 → c ≤ℤ pos 0 → d <ℤ pos 0 → pos 0 <ℤ e → pos 0 ≤ℤ f → a ≤ℤ pos 0
first_weak a b c d e f h hb hc hd he hf =
    let p : pos 0 ≤ℤ (c *ℤ d) = low_weak c d hc hd in
    let q : pos 0 ≤ℤ (e *ℤ f) = mul_weak e f (omega (arith, ints)) hf in
    by_sign a
    (λ s. absurd (omega (arith, ints, positive_negative a b s hb)))
    (λ s. omega (arith, ints))
    (λ s. omega (arith, ints))

-- the last factor, from weak signs of the others
pub last_weak : (a b c d e f : ℤ) → a *ℤ b ≡ c *ℤ d +ℤ e *ℤ f → a ≤ℤ pos 0 → b <ℤ pos 0 → pos 0 ≤ℤ c → d <ℤ pos 0 → pos 0 <ℤ e → pos 0 ≤ℤ f
last_weak a b c d e f h ha hb hc hd he =
    let p : pos 0 ≤ℤ (a *ℤ b) = low_weak a b ha hb in
    let q : (c *ℤ d) ≤ℤ pos 0 = high_low_weak c d hc hd in
    by_sign f
    (λ s. omega (arith, ints))
    (λ s. omega (arith, ints))
    (λ s. absurd (omega (arith, ints, positive_negative e f he s)))

pub last_high : (a b c d e f : ℤ) → a *ℤ b ≡ c *ℤ d +ℤ e *ℤ f → pos 0 ≤ℤ a → pos 0 <ℤ b → c ≤ℤ pos 0 → pos 0 <ℤ d → pos 0 <ℤ e → pos 0 ≤ℤ f
last_high a b c d e f h ha hb hc hd he =
    let p : pos 0 ≤ℤ (a *ℤ b) = high_weak a b ha hb in
    let q : (c *ℤ d) ≤ℤ pos 0 = low_high_weak c d hc hd in
    by_sign f
    (λ s. omega (arith, ints))
    (λ s. omega (arith, ints))
    (λ s. absurd (omega (arith, ints, positive_negative e f he s)))

pub last_low : (a b c d e f : ℤ) → a *ℤ b ≡ c *ℤ d +ℤ e *ℤ f → a ≤ℤ pos 0 → b <ℤ pos 0 → pos 0 ≤ℤ c → d <ℤ pos 0 → e <ℤ pos 0 → f ≤ℤ pos 0
last_low a b c d e f h ha hb hc hd he =
    let p : pos 0 ≤ℤ (a *ℤ b) = low_weak a b ha hb in
    let q : (c *ℤ d) ≤ℤ pos 0 = high_low_weak c d hc hd in
    by_sign f
    (λ s. absurd (omega (arith, ints, negative_positive e f he s)))
    (λ s. omega (arith, ints))
    (λ s. omega (arith, ints))

pub positive_low : (a b : ℤ) → pos 0 <ℤ a → b ≤ℤ pos 0 → (a *ℤ b) ≤ℤ pos 0
positive_low a b ha hb = by_sign b
    (λ p. absurd (omega (arith, ints)))
    (λ p. omega (arith, ints, zero_right a b p))
    (λ p. omega (arith, ints, positive_negative a b ha p))
