use Rattle.std.proofs.Common.{◌≢◌, ℕ, ◌<◌, get_or}
use Rattle.edit.specs.declared.look.Look.{Look}
use Rattle.hands.proofs.fitting.InHandStars.star.Given as goal

abbrev pub invariant-loop-k : goal.invariant-loop-k
invariant-loop-k l = (j : ℕ) (f : Look) → j < l.k → (get_or l.self.hands.now j f).star.centre ≢ l.v
