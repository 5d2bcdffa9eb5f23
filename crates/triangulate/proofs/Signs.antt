-- What the signs of the orientations of four points in order say of one another.
use Rattle.std.proofs.Common.{ℤ, pos, arith}
use Rattle.std.specs.Prelude.{◌<ℤ◌, ◌≤ℤ◌}
use Rattle.std.proofs.lemmas.Int.{ints, by_lt_z}
use Rattle.plane_laws.specs.Order.{AreInOrder}

pub second_falls : (a b c d : ℤ) → AreInOrder a b c d → a ≤ℤ pos 0 → c <ℤ pos 0 → b <ℤ pos 0
second_falls a b c d q ha hc = by_lt_z b (pos 0) (λ p. p)
    (λ p. let hd : d <ℤ pos 0 = omega (arith, ints, q.sum) in let r : b <ℤ a = q.falls_last ha hd in absurd (omega (arith, ints)))

pub third_falls : (a b c d : ℤ) → AreInOrder a b c d → pos 0 ≤ℤ a → b <ℤ pos 0 → c <ℤ pos 0
third_falls a b c d q ha hb = by_lt_z c (pos 0) (λ p. p)
    (λ p. let hd : pos 0 <ℤ d = omega (arith, ints, q.sum) in let r : a <ℤ b = q.rises_last ha hd in absurd (omega (arith, ints)))

pub second_rises : (a b c d : ℤ) → AreInOrder a b c d → pos 0 ≤ℤ a → pos 0 ≤ℤ d → pos 0 ≤ℤ b
second_rises a b c d q ha hd = let r : a ≤ℤ b = q.rises ha hd in omega (arith, ints)

pub third_rises : (a b c d : ℤ) → AreInOrder a b c d → pos 0 ≤ℤ a → pos 0 ≤ℤ d → pos 0 ≤ℤ c
third_rises a b c d q ha hd = let r : a ≤ℤ b = q.rises ha hd in omega (arith, ints, q.sum)

pub first_rises : (a b c d : ℤ) → AreInOrder a b c d → pos 0 ≤ℤ b → d ≤ℤ pos 0 → pos 0 ≤ℤ a
first_rises a b c d q hb hd = by_lt_z a (pos 0)
    (λ p. let r : b <ℤ a = q.falls_first p hd in absurd (omega (arith, ints))) (λ p. p)

pub last_rises : (a b c d : ℤ) → AreInOrder a b c d → a ≤ℤ pos 0 → pos 0 ≤ℤ c → pos 0 ≤ℤ d
last_rises a b c d q ha hc = by_lt_z d (pos 0)
    (λ p. let r : b <ℤ a = q.falls_last ha p in absurd (omega (arith, ints, q.sum))) (λ p. p)
