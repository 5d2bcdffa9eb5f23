-- A quoted text is one piece.
use Rattle.std.proofs.Common.{◌≡◌, ℕ, zero, suc, ◌+◌, ◌<◌, ◌≤◌, List, [], ◌∷◌, ◌++◌, length, take, drop, Bool, true, false, cond, not, ◌&&◌, ◌==◌, eqb, inl, inr, refl, sym, ap, ap₂, ◌∙◌, subst, arith, append_assoc, length-append, ne_eqb}
use Rattle.std.proofs.lemmas.Bool.{and_parts, cases_lt, cases_eq}
use Rattle.std.proofs.Math.Seq.{take-append_seam, drop-append_seam}
use Rattle.json.specs.Print.{escape_byte, escape, quoted}
use Rattle.json.proofs.Printed.Strings.{escape_byte_plain}
use Rattle.text_defs.specs.Pieces as text
use Rattle.text_defs.specs.Pieces.{string_len, pieces}
use Rattle.text_defs.proofs.laws.Pieces.{pieces-quote}

one : (c : ℕ) (t : List ℕ) → 0 < length t → eqb c 34 ≡ false → eqb c 92 ≡ false → string_len (c ∷ t) ≡ suc (string_len t)
one c [] h q b = absurd (omega arith)
one c (d ∷ t) h q b = rw (q, b) (omega arith)

-- no quotation mark but behind a backslash, and no backslash at the end
abbrev inside : Bool → List ℕ → Bool
inside taken [] = not taken
inside true (c ∷ l) = inside false l
inside false (c ∷ l) = cond (c == 92) (inside true l) (not (c == 34) && inside false l)

pass : (l t : List ℕ) → inside false l ≡ true → 0 < length t → string_len (l ++ t) ≡ length l + string_len t
pass [] t h some = omega arith
pass (c ∷ []) t h some =
    let P : Bool → Bool → Type 0 = λ b q. eqb c 92 ≡ b → eqb c 34 ≡ q → cond b false (not q && true) ≡ true → string_len (c ∷ t) ≡ 1 + string_len t in
    let all : (b q : Bool) → P b q = λ b q. elim b as (λ b. P b q) [
      | true ↦ λ e f g. absurd (cc)
      | false ↦ elim q as (λ q. P false q) [
        | true ↦ λ e f g. absurd (cc)
        | false ↦ λ e f g. omega (arith, one c t some f e)
      ]
    ] in
    all (eqb c 92) (eqb c 34) refl refl h
pass (c ∷ d ∷ l) t h some =
    let P : Bool → Bool → Type 0 = λ b q. eqb c 92 ≡ b → eqb c 34 ≡ q → cond b (inside false l) (not q && inside false (d ∷ l)) ≡ true → string_len (c ∷ d ∷ (l ++ t)) ≡ suc (suc (length l)) + string_len t in
    let all : (b q : Bool) → P b q = λ b q. elim b as (λ b. P b q) [
      | true ↦ elim q as (λ q. P true q) [
        | true ↦ λ e f g. absurd (two_bytes c e f)
        | false ↦ λ e f g. rw (e, f) (omega (arith, pass l t g some))
      ]
      | false ↦ elim q as (λ q. P false q) [
        | true ↦ λ e f g. absurd (cc)
        | false ↦ λ e f g. omega (arith, one c (d ∷ (l ++ t)) (omega arith) f e, pass (d ∷ l) t g some)
      ]
    ] in
    all (eqb c 92) (eqb c 34) refl refl h
  where
    two_bytes : (c : ℕ) → eqb c 92 ≡ true → eqb c 34 ≡ true → ⊥
    two_bytes c e f = grind arith

abbrev inside_below : ℕ → Bool
inside_below zero = true
inside_below (suc n) = inside false (escape_byte n) && inside_below n

escape_inside_below : (n : ℕ) → inside_below n ≡ true → (x : ℕ) → x < n → inside false (escape_byte x) ≡ true
escape_inside_below zero e x h = absurd (omega arith)
escape_inside_below (suc n) e x h =
    let p = and_parts _ _ e in
    elim (cases_eq x n) [ inl same ↦ rw same p.0 | inr other ↦ escape_inside_below n p.1 x (omega arith) ]

all_inside : inside_below 128 ≡ true
unfolding escape_byte
all_inside = refl

plain_inside : (x : ℕ) → 128 ≤ x → inside false (x ∷ []) ≡ true
plain_inside x h = rw (ne_eqb x 92 (λ e. omega arith), ne_eqb x 34 (λ e. omega arith)) refl

escape_inside : (x : ℕ) → inside false (escape_byte x) ≡ true
escape_inside x = elim (cases_lt x 128) [
  | inl small ↦ escape_inside_below 128 all_inside x small
  | inr big ↦ subst (λ l. inside false l ≡ true) (sym (escape_byte_plain x (λ e. omega arith) (λ e. omega arith) (omega arith))) (plain_inside x big)
]

end : (r : List ℕ) → string_len (34 ∷ r) ≡ 1
end [] = refl
end (d ∷ r) = refl

pub string_len-escape : (s r : List ℕ) → string_len (escape s ++ 34 ∷ r) ≡ length (escape s ++ 34 ∷ [])
string_len-escape [] r = end r
string_len-escape (x ∷ s) r =
    ap string_len (append_assoc (escape_byte x) (escape s) (34 ∷ r))
    ∙ (pass (escape_byte x) (escape s ++ 34 ∷ r) (escape_inside x) (omega (arith, length-append (escape s) (34 ∷ r)))
    ∙ (ap (λ n. length (escape_byte x) + n) (string_len-escape s r) ∙ (sym (length-append (escape_byte x) (escape s ++ 34 ∷ [])) ∙ ap length (sym (append_assoc (escape_byte x) (escape s) (34 ∷ []))))))

pub pieces-quoted : (s rest : List ℕ) → pieces (quoted s ++ rest) ≡ text.quoted (quoted s) ∷ pieces rest
pieces-quoted s rest =
    let body = escape s ++ 34 ∷ [] in
    let n : string_len (body ++ rest) ≡ length body = ap string_len (append_assoc (escape s) (34 ∷ []) rest) ∙ string_len-escape s rest in
    pieces-quote (body ++ rest) ∙ ap₂ (λ (a b : List ℕ). text.quoted (34 ∷ a) ∷ pieces b)
    (ap (λ k. take k (body ++ rest)) n ∙ take-append_seam body rest) (ap (λ k. drop k (body ++ rest)) n ∙ drop-append_seam body rest)
