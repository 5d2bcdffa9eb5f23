-- How the pieces of a text follow from its first bytes.
use Rattle.std.proofs.Common.{◌≡◌, ℕ, zero, suc, ◌≤◌, List, [], ◌∷◌, length, take, drop, true, false, eqb, refl, ap, arith, length-drop}
use Rattle.std.specs.List.{prefix_len}
use Rattle.text_defs.specs.Pieces.{is_number_byte, string_len, quoted, run, other, pieces_within, pieces}

shorter : (k : ℕ) (cs : List ℕ) (n : ℕ) → length cs ≤ n → length (drop k cs) ≤ n
shorter k cs n h = omega (arith, length-drop k cs)

-- a longer bound gives the same pieces
pub pieces_within-same : (n m : ℕ) (cs : List ℕ) → length cs ≤ n → length cs ≤ m → pieces_within n cs ≡ pieces_within m cs
pieces_within-same zero zero cs h k = refl
pieces_within-same zero (suc m) [] h k = refl
pieces_within-same zero (suc m) (c ∷ cs) h k = absurd (omega arith)
pieces_within-same (suc n) zero [] h k = refl
pieces_within-same (suc n) zero (c ∷ cs) h k = absurd (omega arith)
pieces_within-same (suc n) (suc m) [] h k = refl
pieces_within-same (suc n) (suc m) (c ∷ cs) h k =
    let a : length cs ≤ n = omega arith in
    let b : length cs ≤ m = omega arith in
    rw (
      pieces_within-same n m (drop (string_len cs) cs) (shorter (string_len cs) cs n a) (shorter (string_len cs) cs m b),
      pieces_within-same n m (drop (prefix_len is_number_byte cs) cs) (shorter (prefix_len is_number_byte cs) cs n a) (shorter (prefix_len is_number_byte cs) cs m b),
      pieces_within-same n m cs a b,
    )
    refl

pub pieces-nil : pieces [] ≡ []
unfolding pieces
pieces-nil = refl

pieces-from : (k n : ℕ) (cs : List ℕ) → length cs ≤ n → pieces_within n (drop k cs) ≡ pieces (drop k cs)
unfolding pieces
pieces-from k n cs h = pieces_within-same n (length (drop k cs)) (drop k cs) (shorter k cs n h) (omega arith)

pub pieces-quote : (cs : List ℕ) → pieces (34 ∷ cs) ≡ quoted (34 ∷ take (string_len cs) cs) ∷ pieces (drop (string_len cs) cs)
unfolding pieces
pieces-quote cs = ap (λ ps. quoted (34 ∷ take (string_len cs) cs) ∷ ps) (pieces-from (string_len cs) (length cs) cs (omega arith))

pub pieces-run : (c : ℕ) (cs : List ℕ) → eqb c 34 ≡ false → is_number_byte c ≡ true
    → pieces (c ∷ cs) ≡ run (c ∷ take (prefix_len is_number_byte cs) cs) ∷ pieces (drop (prefix_len is_number_byte cs) cs)
unfolding pieces
pieces-run c cs q r =
    rw (q, r) (ap (λ ps. run (c ∷ take (prefix_len is_number_byte cs) cs) ∷ ps) (pieces-from (prefix_len is_number_byte cs) (length cs) cs (omega arith)))

pub pieces-other : (c : ℕ) (cs : List ℕ) → eqb c 34 ≡ false → is_number_byte c ≡ false → pieces (c ∷ cs) ≡ other c ∷ pieces cs
unfolding pieces
pieces-other c cs q r = rw (q, r) refl
