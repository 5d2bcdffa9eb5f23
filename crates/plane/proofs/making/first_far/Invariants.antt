use Rattle.std.proofs.Common.{◌<◌, ℕ}
use Rattle.plane.specs.Geometry.{point}
use Rattle.plane.specs.Accepted.{IsNear}
use Rattle.plane.proofs.making.first_far.Given as goal

abbrev pub invariant-loop-k : goal.invariant-loop-k
invariant-loop-k l = (k : ℕ) → k < l.k → IsNear (point l.list k)
