use Rattle.std.proofs.Common.{◌≡◌, ◌<◌, ℕ, length, get_or}
use Rattle.edit.specs.Round.{bare, IsPlaced}
use Rattle.edit.proofs.tests.round.round_of.Given as goal

abbrev pub invariant-loop-v : goal.invariant-loop-v
invariant-loop-v l = (length l.stars.items ≡ l.v) × ((k : ℕ) → k < l.v → IsPlaced l.points (get_or l.stars.items k bare) k)
