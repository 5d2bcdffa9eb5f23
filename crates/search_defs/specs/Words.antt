-- The words of a random generator that a seed and a stream begin. (PCG XSH RR 64/32, as `rand_pcg` defines it.)
use Rattle.std.specs.Prelude.{ℕ, zero, suc, ◌+◌, ◌*◌, List, [], ◌∷◌}
use Rattle.rand_pcg.specs.Lcg.{Lcg, started, advance, increment_of}
use Rattle.rand_pcg.specs.Pcg.{multiplier_64, output_xsh_rr}

-- the generator before the word at this position
abbrev pub at_position : (stream seed position : ℕ) → Lcg
at_position stream seed position = advance 64 multiplier_64 position (started 64 multiplier_64 seed (increment_of 64 stream))

-- the word at this position, counted from 0
unfoldable pub stream_word : (stream seed position : ℕ) → ℕ
stream_word stream seed position = output_xsh_rr (at_position stream seed position).state

-- the words of so many rounds from the round k on, two for each
abbrev pub round_words : (stream seed k rounds : ℕ) → List (ℕ × ℕ)
round_words stream seed k zero = []
round_words stream seed k (suc rounds) = (stream_word stream seed (2 * k), stream_word stream seed (2 * k + 1)) ∷ round_words stream seed (k + 1) rounds
