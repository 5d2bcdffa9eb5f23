use Rattle.std.proofs.Common.{◌<◌, ℕ}
use Rattle.star.specs.Plain.{MeetsAt}
use Rattle.star.proofs.tests.needs.is_met_without.Given as goal

abbrev pub invariant-loop-k : goal.invariant-loop-k
invariant-loop-k l = (m : ℕ) → m < l.k → ¬ MeetsAt l.star l.u l.q m
