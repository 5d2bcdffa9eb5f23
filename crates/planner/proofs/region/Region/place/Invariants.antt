use Rattle.std.proofs.Common.{◌≡◌, ℕ, ◌<◌, get_or}
use Rattle.edit.specs.declared.look.Look.{Look}
use Rattle.planner.proofs.region.Region.place.Given as goal

abbrev pub invariant-loop-k : goal.invariant-loop-k
invariant-loop-k l = (j : ℕ) (d : Look) → j < l.k → (get_or l.self j d).star.centre ≡ l.v → ⊥
