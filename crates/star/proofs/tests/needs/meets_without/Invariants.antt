use Rattle.std.proofs.Common.{◌<◌, ◌≢◌, ℕ}
use Rattle.star.specs.Plain.{IsMetWithout}
use Rattle.star.proofs.tests.needs.meets_without.Given as goal

abbrev pub invariant-loop-u : goal.invariant-loop-u
invariant-loop-u l = (v : ℕ) → v < l.u → v ≢ l.star.centre → IsMetWithout l.star v l.q
