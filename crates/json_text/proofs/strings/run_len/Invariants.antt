use Rattle.std.proofs.Common.{◌≡◌, ℕ, ◌<◌, get_or, true}
use Rattle.text_defs.specs.Pieces.{is_number_byte}
use Rattle.json_text.proofs.strings.run_len.Given as goal

abbrev pub invariant-loop-end : goal.invariant-loop-end
invariant-loop-end l = (k : ℕ) → k < l.end → is_number_byte (get_or l.text k 0) ≡ true
