use Rattle.std.proofs.Common.{◌≡◌, ◌+◌, ◌-◌, ◌≤◌, length, drop, nat_le}
use Rattle.text_defs.specs.Levels.{levels}
use Rattle.json_text.proofs.levels.has_few_levels.Given as goal

abbrev pub invariant-loop-place : goal.invariant-loop-place
invariant-loop-place l =
    (l.place ≤ length l.bytes) × (l.room ≤ 64 + l.place) × (nat_le (levels (drop l.place l.bytes)) l.room ≡ nat_le (levels l.bytes) 64)

abbrev pub decreases-loop-place : goal.decreases-loop-place
decreases-loop-place l = length l.bytes - l.place
