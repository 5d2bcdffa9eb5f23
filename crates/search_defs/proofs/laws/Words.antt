-- Words of a generator by their position, and those of rounds.
use Rattle.std.proofs.Common.{◌≡◌, ℕ, zero, suc, ◌+◌, ◌*◌, ◌-◌, ◌<◌, List, [], ◌∷◌, length, sym, ◌∙◌, ap, refl, subst, arith}
use Rattle.rand_pcg.specs.Lcg.{Lcg, next, next_state, state_after, started, increment_of}
use Rattle.rand_pcg.specs.Pcg.{multiplier_64, output_xsh_rr, pcg32}
use Rattle.search_defs.specs.Words.{at_position, stream_word, round_words}

step_last : (w m i n s : ℕ) → next_state w m i (state_after w m i n s) ≡ state_after w m i (suc n) s
unfolding state_after
step_last w m i zero s = refl
step_last w m i (suc n) s = step_last w m i n (next_state w m i s)

abbrev begun : (stream seed : ℕ) → Lcg
begun stream seed = started 64 multiplier_64 seed (increment_of 64 stream)

pub at_begin : (stream seed : ℕ) → begun stream seed ≡ at_position stream seed 0
unfolding state_after
at_begin stream seed = refl

-- the generator after its next word
at_next : (stream seed k l : ℕ) → l ≡ suc k → next 64 multiplier_64 (at_position stream seed k) ≡ at_position stream seed l
at_next stream seed k l e =
    ap (λ s. let g : Lcg = record { state = s; increment = (begun stream seed).increment } in g) (step_last 64 multiplier_64 (begun stream seed).increment k (begun stream seed).state)
    ∙ ap (at_position stream seed) (sym e)

word_at : (stream seed k : ℕ) → output_xsh_rr (at_position stream seed k).state ≡ stream_word stream seed k
unfolding stream_word
word_at stream seed k = refl

-- two words one after the other
pub two_words : (stream seed j a b : ℕ) (g h i : Lcg) → g ≡ at_position stream seed (2 * j) → (a, h) ≡ pcg32 g → (b, i) ≡ pcg32 h
    → (a ≡ stream_word stream seed (2 * j)) × (b ≡ stream_word stream seed (2 * j + 1)) × (i ≡ at_position stream seed (2 * (j + 1)))
two_words stream seed j a b g h i eg eh ei =
    let first : a ≡ output_xsh_rr g.state = ap (λ (p : ℕ × Lcg). p.0) eh in
    let moved : h ≡ next 64 multiplier_64 g = ap (λ (p : ℕ × Lcg). p.1) eh in
    let second : b ≡ output_xsh_rr h.state = ap (λ (p : ℕ × Lcg). p.0) ei in
    let again : i ≡ next 64 multiplier_64 h = ap (λ (p : ℕ × Lcg). p.1) ei in
    let here : h ≡ at_position stream seed (2 * j + 1) = moved ∙ ap (next 64 multiplier_64) eg ∙ at_next stream seed (2 * j) (2 * j + 1) (omega arith) in (
      first ∙ ap (λ (s : Lcg). output_xsh_rr s.state) eg ∙ word_at stream seed (2 * j),
      second ∙ ap (λ (s : Lcg). output_xsh_rr s.state) here ∙ word_at stream seed (2 * j + 1),
      again ∙ ap (next 64 multiplier_64) here ∙ at_next stream seed (2 * j + 1) (2 * (j + 1)) (omega arith),
    )

-- the words of the rounds that are left, where at least one is
words_suc : (stream seed k left : ℕ) → 0 < left → round_words stream seed k left ≡ (stream_word stream seed (2 * k), stream_word stream seed (2 * k + 1)) ∷ round_words stream seed (k + 1) (left - 1)
words_suc stream seed k zero h = absurd (omega arith)
words_suc stream seed k (suc left) h = ap (λ n. (stream_word stream seed (2 * k), stream_word stream seed (2 * k + 1)) ∷ round_words stream seed (k + 1) n) (let e : left ≡ suc left - 1 = omega arith in e)

pub words_left : (stream seed k rounds : ℕ) → k < rounds → round_words stream seed k (rounds - k) ≡ (stream_word stream seed (2 * k), stream_word stream seed (2 * k + 1)) ∷ round_words stream seed (k + 1) (rounds - (k + 1))
words_left stream seed k rounds h =
    words_suc stream seed k (rounds - k) (omega arith)
    ∙ ap (λ n. (stream_word stream seed (2 * k), stream_word stream seed (2 * k + 1)) ∷ round_words stream seed (k + 1) n) (let e : (rounds - k) - 1 ≡ rounds - (k + 1) = omega arith in e)
