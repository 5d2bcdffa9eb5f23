use Rattle.std.proofs.Common.{ℕ, ◌<◌, pos, ◌<ℤ◌}
use Rattle.plane.specs.Geometry.{orientation}
use Rattle.triangulation_check.proofs.plain.has_left.Given as goal

abbrev pub invariant-loop-s : goal.invariant-loop-s
invariant-loop-s l = (s : ℕ) → s < l.s → ¬ (pos 0 <ℤ orientation l.points l.p l.q s)
