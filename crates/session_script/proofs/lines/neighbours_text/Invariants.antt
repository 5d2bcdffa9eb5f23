use Rattle.std.proofs.Common.{◌≡◌, take}
use Rattle.std.specs.Prelude.{string_bytes}
use Rattle.session_script.specs.Lines.{neighbours_text}
use Rattle.session_script.proofs.lines.neighbours_text.Given as goal

abbrev pub invariant-loop-k : goal.invariant-loop-k
invariant-loop-k l = string_bytes l.text ≡ neighbours_text (take l.k l.star.list)
