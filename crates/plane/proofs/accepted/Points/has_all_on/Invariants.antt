use Rattle.std.proofs.Common.{◌<◌, ℕ}
use Rattle.plane.specs.Geometry.{orientation}
use Rattle.plane.specs.Hull.{IsOnSide}
use Rattle.plane.proofs.accepted.Points.has_all_on.Given as goal

abbrev pub invariant-loop-k : goal.invariant-loop-k
invariant-loop-k l = (k : ℕ) → k < l.k → IsOnSide l.side (orientation l.self l.v l.w k)
