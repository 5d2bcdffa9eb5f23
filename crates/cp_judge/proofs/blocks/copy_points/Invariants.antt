use Rattle.std.proofs.Common.{◌≡◌, ◌<◌, ℕ}
use Rattle.plane.specs.Geometry.{point}
use Rattle.cp_judge.proofs.blocks.copy_points.Given as goal

abbrev pub invariant-loop-k : goal.invariant-loop-k
invariant-loop-k l = (k : ℕ) → k < l.k → point l.places k ≡ point l.points k
