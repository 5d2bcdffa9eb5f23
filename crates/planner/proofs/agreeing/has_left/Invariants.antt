use Rattle.std.proofs.Common.{ℕ, ◌<◌, pos}
use Rattle.std.specs.Prelude.{◌<ℤ◌}
use Rattle.plane.specs.Geometry.{orientation}
use Rattle.planner.proofs.agreeing.has_left.Given as goal

abbrev pub invariant-loop-r : goal.invariant-loop-r
invariant-loop-r l = (j : ℕ) → j < l.r → pos 0 <ℤ orientation l.points l.p l.q j → ⊥
