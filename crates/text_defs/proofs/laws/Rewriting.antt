-- How the rewritten text follows from the front of a text.
use Rattle.std.proofs.Common.{◌≡◌, ℕ, suc, ◌+◌, ◌<◌, List, [], ◌∷◌, ◌++◌, length, take, drop, get_or, Bool, true, false, cond, eqb, refl, ap, ◌∙◌, arith}
use Rattle.std.specs.List.{prefix_len}
use Rattle.text_defs.specs.Pieces.{is_number_byte, is_other, string_len}
use Rattle.text_defs.specs.Numbers.{replacement, rewritten}
use Rattle.text_defs.proofs.laws.Pieces.{pieces-nil, pieces-quote, pieces-run, pieces-other}
use Rattle.text_defs.proofs.laws.Levels.{one-more}

pub rewritten-nil : rewritten [] ≡ []
unfolding rewritten
rewritten-nil = rw pieces-nil refl

pub rewritten-quote : (cs : List ℕ) → 0 < length cs → get_or cs 0 0 ≡ 34
    → rewritten cs ≡ take (1 + string_len (drop 1 cs)) cs ++ rewritten (drop (1 + string_len (drop 1 cs)) cs)
unfolding rewritten
rewritten-quote [] h q = absurd (omega arith)
rewritten-quote (c ∷ cs) h q = rw (q, one-more (string_len cs), pieces-quote cs) refl

pub rewritten-run : (cs : List ℕ) → 0 < length cs → is_number_byte (get_or cs 0 0) ≡ true → eqb (get_or cs 0 0) 34 ≡ false
    → rewritten cs ≡ replacement (take (prefix_len is_number_byte cs) cs) ++ rewritten (drop (prefix_len is_number_byte cs) cs)
unfolding rewritten
rewritten-run [] h r q = absurd (omega arith)
rewritten-run (c ∷ cs) h r q = rw (pieces-run c cs q r, r, one-more (prefix_len is_number_byte cs)) refl

rewritten-other : (c : ℕ) (cs : List ℕ) → is_other c ≡ true → rewritten (c ∷ cs) ≡ c ∷ rewritten cs
unfolding rewritten
rewritten-other c cs o = rw (pieces-other c cs (grind arith) (grind arith)) refl

pub rewritten-others : (cs : List ℕ) → rewritten cs ≡ take (prefix_len is_other cs) cs ++ rewritten (drop (prefix_len is_other cs) cs)
rewritten-others [] = refl
rewritten-others (c ∷ cs) =
    let P : Bool → Type 0 = λ b. is_other c ≡ b → rewritten (c ∷ cs) ≡ take (cond b (1 + prefix_len is_other cs) 0) (c ∷ cs) ++ rewritten (drop (cond b (1 + prefix_len is_other cs) 0) (c ∷ cs)) in
    let both : (b : Bool) → P b = λ b. elim b as P [
      | true ↦ λ o. rw one-more (rewritten-other c cs o ∙ ap (λ r. c ∷ r) (rewritten-others cs))
      | false ↦ λ o. refl
    ] in
    both (is_other c) refl
