use Rattle.std.proofs.Common.{◌≡◌, ℕ, ◌<◌, length}
use Rattle.directions.specs.Opposites.{number}
use Rattle.directions.proofs.finding.clear_heads.Given as goal

abbrev pub invariant-loop-b : goal.invariant-loop-b
invariant-loop-b l = (length l.heads ≡ length l.initial.heads) × ((b : ℕ) → b < l.b → number l.heads b ≡ 65535)
