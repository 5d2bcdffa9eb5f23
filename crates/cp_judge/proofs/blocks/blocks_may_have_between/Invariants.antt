use Rattle.std.proofs.Common.{◌<◌, ◌≤◌, ◌*◌, ℕ, length}
use Rattle.plane.specs.Geometry.{point, LiesBetween}
use Rattle.cp_judge.proofs.blocks.blocks_may_have_between.Given as goal

abbrev pub invariant-loop-i : goal.invariant-loop-i
invariant-loop-i l = (k : ℕ) → 288 * l.s ≤ k → k < 32 * l.i → k < length l.places → ¬ LiesBetween (point l.places k) l.a l.b
