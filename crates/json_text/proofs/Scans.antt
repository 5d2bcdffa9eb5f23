-- The steps of the scans of a text.
use Rattle.std.proofs.Common.{◌≡◌, ◌≢◌, ◌⊎◌, ℕ, ◌+◌, ◌<◌, ◌≤◌, List, [], ◌∷◌, length, drop, get_or, refl, inl, inr, arith, length-drop}
use Rattle.std.proofs.lemmas.List.{drop_more}
use Rattle.std.proofs.lemmas.Bool.Decides.{nat_tests}
use Rattle.text_defs.specs.Pieces.{string_len}

ends_at : (c : ℕ) (cs : List ℕ) → c ≡ 34 → string_len (c ∷ cs) ≡ 1
ends_at c [] e = refl
ends_at c (d ∷ cs) e = rw e refl

escapes_at : (c d : ℕ) (cs : List ℕ) → c ≡ 92 → string_len (c ∷ d ∷ cs) ≡ 2 + string_len cs
escapes_at c d cs e = rw e refl

goes_on : (c : ℕ) (cs : List ℕ) → c ≢ 34 → (c ≢ 92) ⊎ (length cs ≡ 0) → string_len (c ∷ cs) ≡ 1 + string_len cs
goes_on c [] n o = refl
goes_on c (d ∷ cs) n (inl o) = grind (arith, nat_tests)
goes_on c (d ∷ cs) n (inr o) = absurd (omega arith)

-- one step of `string_len` at each kind of byte
pub string_ends : (s : List ℕ) (i : ℕ) → i < length s → get_or s i 0 ≡ 34 → string_len (drop i s) ≡ 1
string_ends s i h q = rw (drop_more s i 0 h) (ends_at (get_or s i 0) (drop (i + 1) s) q)

pub string_escapes : (s : List ℕ) (i : ℕ) → i + 1 < length s → get_or s i 0 ≡ 92 → string_len (drop i s) ≡ 2 + string_len (drop (i + 2) s)
string_escapes s i h q =
    let a : i < length s = omega arith in
    let two : (i + 1) + 1 ≡ i + 2 = omega arith in
    rw (drop_more s i 0 a, drop_more s (i + 1) 0 h, two) (escapes_at (get_or s i 0) (get_or s (i + 1) 0) (drop (i + 2) s) q)

pub string_goes_on : (s : List ℕ) (i : ℕ) → i < length s → get_or s i 0 ≢ 34 → (get_or s i 0 ≢ 92) ⊎ (length s ≤ i + 1) → string_len (drop i s) ≡ 1 + string_len (drop (i + 1) s)
string_goes_on s i h n (inl o) = rw (drop_more s i 0 h) (goes_on (get_or s i 0) (drop (i + 1) s) n (inl o))
string_goes_on s i h n (inr o) = rw (drop_more s i 0 h) (goes_on (get_or s i 0) (drop (i + 1) s) n (inr (omega (arith, length-drop (i + 1) s))))
