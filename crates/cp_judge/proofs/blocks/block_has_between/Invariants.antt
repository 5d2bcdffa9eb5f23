use Rattle.std.proofs.Common.{◌<◌, ◌≤◌, ◌*◌, ℕ}
use Rattle.plane.specs.Geometry.{point, LiesBetween}
use Rattle.cp_judge.proofs.blocks.block_has_between.Given as goal

abbrev pub invariant-loop-k : goal.invariant-loop-k
invariant-loop-k l = (k : ℕ) → 32 * l.i ≤ k → k < l.k → ¬ LiesBetween (point l.places k) l.a l.b
