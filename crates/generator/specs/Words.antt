-- The words of the generator that a seed begins. (PCG XSH RR 64/32, stream 1, as `rand_pcg` defines it.)
use Rattle.std.specs.Prelude.{ℕ}
use Rattle.rand_pcg.specs.Lcg.{Lcg, started, advance, increment_of}
use Rattle.rand_pcg.specs.Pcg.{multiplier_64, output_xsh_rr}

-- the generator of a seed, before its first word
abbrev pub begun : (seed : ℕ) → Lcg
begun seed = started 64 multiplier_64 seed (increment_of 64 1)

-- the generator before the word at this position
abbrev pub at_position : (seed position : ℕ) → Lcg
at_position seed position = advance 64 multiplier_64 position (begun seed)

-- the word at this position, counted from 0
unfoldable pub word : (seed position : ℕ) → ℕ
word seed position = output_xsh_rr (at_position seed position).state
