-- Tables with a bit for each pair: numbers of pairs, and bits that are set.
use Rattle.std.proofs.Common.{◌≡◌, ◌≢◌, ℕ, zero, suc, ◌+◌, ◌*◌, ◌-◌, ◌/◌, ◌%◌, ◌^◌, ◌<◌, ◌≤◌, ◌⊎◌, inl, inr, ◌↔◌, refl, sym, ◌∙◌, ap, subst, min, max, List, length, set, replicate, arith, get_or-set_other, get_or-set_same, mul-div_cancel}
use Rattle.std.specs.Prelude.{slice_index, bit_or}
use Rattle.std.specs.Int.{bit_at}
use Rattle.std.proofs.lemmas.Bool.{cases_lt}
use Rattle.std.proofs.lemmas.List.{get_or-replicate, get_or_past, length-replicate}
use Rattle.std.proofs.lemmas.Nat.Bits.{bit_at-zero, bit_at_set_same, bit_at_set_other}
use Rattle.number_laws.proofs.Naturals.{equal_or_not}
use mir.Syntax.{w64}
use Rattle.directions.specs.Bits.{count_of_pairs, number_of, HasBit, HasRoom, AddsBit}

twice_pairs : (n : ℕ) → 2 * count_of_pairs n + n ≡ n * n
twice_pairs zero = refl
twice_pairs (suc n) = omega (arith, twice_pairs n)

pub half_of_pairs : (n : ℕ) → n * (n - 1) / 2 ≡ count_of_pairs n
half_of_pairs n = elim (cases_lt 0 n) [
  | inl h ↦ (let e : n * (n - 1) ≡ count_of_pairs n * 2 = twice n h in ap (λ x. x / 2) e ∙ mul-div_cancel (count_of_pairs n) (omega arith))
  | inr h ↦ (let e : n ≡ 0 = omega arith in subst (λ x. x * (x - 1) / 2 ≡ count_of_pairs x) (sym e) refl)
]
  where
    twice : (n : ℕ) → 0 < n → n * (n - 1) ≡ count_of_pairs n * 2
    twice zero h = absurd (omega arith)
    twice (suc m) h = (let e : suc m - 1 ≡ m = omega arith in ap (λ x. suc m * x) e ∙ omega (arith, twice_pairs (suc m)))

pairs_grow : (j l : ℕ) → j < l → count_of_pairs j + j ≤ count_of_pairs l
pairs_grow j zero h = absurd (omega arith)
pairs_grow j (suc l) h = elim (cases_lt j l) [
  | inl k ↦ omega (arith, pairs_grow j l k)
  | inr g ↦ (let e : j ≡ l = omega arith in omega (arith, ap count_of_pairs e))
]

pub few_pairs : (n : ℕ) → n < 5001 → count_of_pairs n ≤ 12497500
few_pairs n h = elim (cases_lt n 5000) [
  | inl l ↦ omega (arith, pairs_grow n 5000 l, twice_pairs 5000)
  | inr g ↦ (let e : n ≡ 5000 = omega arith in omega (arith, ap count_of_pairs e, twice_pairs 5000))
]

-- a pair has a number of its own
pub number_once : (i j k l : ℕ) → i < j → k < l → number_of i j ≡ number_of k l → (i ≡ k) × (j ≡ l)
unfolding number_of
number_once i j k l ij kl e = elim (cases_lt j l) [
  | inl h ↦ absurd (omega (arith, pairs_grow j l h))
  | inr g ↦ elim (cases_lt l j) [
    | inl h ↦ absurd (omega (arith, pairs_grow l j h))
    | inr m ↦ (let s : j ≡ l = omega arith in (omega (arith, ap count_of_pairs s), s))
  ]
]

pub number_in : (i j n : ℕ) → i < j → j < n → number_of i j < count_of_pairs n
unfolding number_of
number_in i j n ij jn = omega (arith, pairs_grow j n jn)

pub number_is : (i j k : ℕ) → k ≡ count_of_pairs j → k + i ≡ number_of i j
unfolding number_of
number_is i j k e = omega (arith, e)

pub number_same : (i j k l : ℕ) → i ≡ k → j ≡ l → number_of i j ≡ number_of k l
number_same i j k l e f = ap (λ x. number_of x j) e ∙ ap (number_of k) f

pub room_of : (n m : ℕ) (table : List ℕ) → m ≡ count_of_pairs n → length table ≡ m / 64 + 1 → HasRoom n table
room_of n m table e l k h = omega arith

pub no_bit : (n k : ℕ) → ¬ HasBit (replicate n 0) k
unfolding HasBit
no_bit n k h = elim (cases_lt (k / 64) n) [
  | inl l ↦ omega (arith, ap (λ x. bit_at x (k % 64)) (get_or-replicate n (k / 64) 0 0 l), bit_at-zero (k % 64), h)
  | inr g ↦ (let past : length (replicate n 0) ≤ k / 64 = omega (arith, length-replicate {A = ℕ} n 0) in
      omega (arith, ap (λ x. bit_at x (k % 64)) (get_or_past (replicate n 0) (k / 64) 0 past), bit_at-zero (k % 64), h))
]

pub adds_bit : (old : List ℕ) (k w : ℕ) → k / 64 < length old → w ≡ slice_index old (k / 64) → AddsBit old k (set old (k / 64) (bit_or w (1 * 2 ^ (k % 64) % 2 ^ 64)))
unfolding HasBit
adds_bit old k w kl is j =
    let v : ℕ = bit_or w (1 * 2 ^ (k % 64) % 2 ^ 64) in
    let within : k % 64 < 64 = omega arith in
    elim (equal_or_not (j / 64) (k / 64)) [
      | inl e ↦
          let at : slice_index (set old (k / 64) v) (j / 64) ≡ v = ap (slice_index (set old (k / 64) v)) e ∙ get_or-set_same old (k / 64) v 0 kl in
          elim (equal_or_not (j % 64) (k % 64)) [
            | inl f ↦ (
              λ h. inl (omega (arith, e, f)),
              λ h. ap (λ x. bit_at x (j % 64)) at ∙ ap (bit_at v) f ∙ bit_at_set_same w64 w (k % 64) within,
            )
            | inr ne ↦
                let same : bit_at (slice_index (set old (k / 64) v) (j / 64)) (j % 64) ≡ bit_at (slice_index old (j / 64)) (j % 64) =
                ap (λ x. bit_at x (j % 64)) at ∙ bit_at_set_other w64 w (k % 64) within (j % 64) ne ∙ ap (λ x. bit_at x (j % 64)) (is ∙ ap (slice_index old) (sym e)) in
                (λ h. inr (sym same ∙ h), λ h. elim h [ inl s ↦ absurd (ne (ap (λ x. x % 64) s)) | inr b ↦ same ∙ b ])
          ]
      | inr ne ↦
          let same : bit_at (slice_index (set old (k / 64) v) (j / 64)) (j % 64) ≡ bit_at (slice_index old (j / 64)) (j % 64) =
          ap (λ x. bit_at x (j % 64)) (get_or-set_other old (k / 64) (j / 64) v 0 ne) in
          (λ h. inr (sym same ∙ h), λ h. elim h [ inl s ↦ absurd (ne (ap (λ x. x / 64) s)) | inr b ↦ same ∙ b ])
    ]
