use Rattle.std.proofs.Common.{◌≡◌, ◌-◌, ◌≤◌, ◌++◌, length, drop}
use Rattle.text_defs.specs.Numbers.{rewritten}
use Rattle.json_text.proofs.rewriting.plain_numbers.Given as goal

abbrev pub invariant-loop-place : goal.invariant-loop-place
invariant-loop-place l =
    (l.place ≤ length l.bytes) × (l.plain.items ++ rewritten (drop l.place l.bytes) ≡ rewritten l.bytes)

abbrev pub decreases-loop-place : goal.decreases-loop-place
decreases-loop-place l = length l.bytes - l.place
