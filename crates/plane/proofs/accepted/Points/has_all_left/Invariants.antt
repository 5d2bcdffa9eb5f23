use Rattle.std.proofs.Common.{◌<◌, ℕ, pos, ◌≤ℤ◌}
use Rattle.plane.specs.Geometry.{orientation}
use Rattle.plane.proofs.accepted.Points.has_all_left.Given as goal

abbrev pub invariant-loop-k : goal.invariant-loop-k
invariant-loop-k l = (k : ℕ) → k < l.k → pos 0 ≤ℤ orientation l.self l.i l.j k
