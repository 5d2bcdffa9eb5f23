-- How the levels follow from the front of a text.
use Rattle.std.proofs.Common.{◌≡◌, ℕ, suc, ◌+◌, ◌-◌, ◌<◌, List, [], ◌∷◌, ◌++◌, length, take, drop, get_or, Bool, true, false, cond, eqb, refl, arith}
use Rattle.std.specs.List.{prefix_len}
use Rattle.std.proofs.lemmas.Bool.Decides.{nat_tests}
use Rattle.text_defs.specs.Pieces.{is_number_byte, string_len}
use Rattle.text_defs.specs.Levels.{opens, closes, unquoted, greatest_count, levels}
use Rattle.text_defs.proofs.laws.Pieces.{pieces-nil, pieces-quote, pieces-run, pieces-other}

pub levels-nil : levels [] ≡ 0
unfolding levels unquoted
levels-nil = rw pieces-nil refl

pub one-more : (n : ℕ) → 1 + n ≡ suc n
one-more n = omega arith

pub levels-quote : (cs : List ℕ) → 0 < length cs → get_or cs 0 0 ≡ 34 → levels cs ≡ levels (drop (1 + string_len (drop 1 cs)) cs)
unfolding levels unquoted
levels-quote [] h q = absurd (omega arith)
levels-quote (c ∷ cs) h q = rw (q, one-more (string_len cs), pieces-quote cs) refl

number-byte-flat : (c : ℕ) → is_number_byte c ≡ true → (opens c ≡ false) × (closes c ≡ false)
number-byte-flat c h = (grind (arith, nat_tests), grind (arith, nat_tests))

flat-front : (cs more : List ℕ) → greatest_count (take (prefix_len is_number_byte cs) cs ++ more) ≡ greatest_count more
flat-front [] more = refl
flat-front (c ∷ cs) more =
    let n = prefix_len is_number_byte cs in
    let P : Bool → Type 0 = λ b. is_number_byte c ≡ b → greatest_count (take (cond b (1 + n) 0) (c ∷ cs) ++ more) ≡ greatest_count more in
    let both : (b : Bool) → P b = λ b. elim b as P [
      | true ↦ λ r. rw (one-more n, (number-byte-flat c r).0, (number-byte-flat c r).1) (flat-front cs more)
      | false ↦ λ r. refl
    ] in
    both (is_number_byte c) refl

pub levels-run : (cs : List ℕ) → 0 < length cs → is_number_byte (get_or cs 0 0) ≡ true → eqb (get_or cs 0 0) 34 ≡ false
    → levels cs ≡ levels (drop (prefix_len is_number_byte cs) cs)
unfolding levels unquoted
levels-run [] h r q = absurd (omega arith)
levels-run (c ∷ cs) h r q = rw (pieces-run c cs q r, r, one-more (prefix_len is_number_byte cs), (number-byte-flat c r).0, (number-byte-flat c r).1) (flat-front cs _)

-- a byte that begins neither a string nor a run
pub levels-other : (cs : List ℕ) → 0 < length cs → is_number_byte (get_or cs 0 0) ≡ false → eqb (get_or cs 0 0) 34 ≡ false
    → levels cs ≡ cond (opens (get_or cs 0 0)) (1 + levels (drop 1 cs)) (cond (closes (get_or cs 0 0)) (levels (drop 1 cs) - 1) (levels (drop 1 cs)))
unfolding levels unquoted
levels-other [] h r q = absurd (omega arith)
levels-other (c ∷ cs) h r q = rw (pieces-other c cs q r) refl
