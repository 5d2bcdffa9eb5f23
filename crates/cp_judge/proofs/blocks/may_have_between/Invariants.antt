use Rattle.std.proofs.Common.{◌<◌, ◌*◌, ℕ, length}
use Rattle.plane.specs.Geometry.{point, LiesBetween}
use Rattle.cp_judge.proofs.blocks.may_have_between.Given as goal

abbrev pub invariant-loop-s : goal.invariant-loop-s
invariant-loop-s l = (k : ℕ) → k < 288 * l.s → k < length l.places → ¬ LiesBetween (point l.places k) l.a l.b
