-- Pairs of numbers in ascending order, by the first number and then by the second.
use Rattle.std.proofs.Common.{◌≡◌, ℕ, ◌+◌, ◌⊎◌, inl, inr, arith}
use Rattle.number_laws.proofs.Naturals.{below_or_last}
use Rattle.plane.specs.First.{ComesBefore}

-- what comes before the next pair comes before this one, or is it
pub next_before : (i j a b : ℕ) → ComesBefore i j a (b + 1) → ComesBefore i j a b ⊎ ((i ≡ a) × (j ≡ b))
next_before i j a b (inl h) = inl (inl h)
next_before i j a b (inr h) = elim (below_or_last j b h.1) [ inl l ↦ inl (inr (h.0, l)) | inr e ↦ inr (h.0, e) ]

pub still_before : (i j a b : ℕ) → ComesBefore i j a b → ComesBefore i j a (b + 1)
still_before i j a b (inl h) = inl h
still_before i j a b (inr h) = inr (h.0, (let l = h.1 in omega arith))
