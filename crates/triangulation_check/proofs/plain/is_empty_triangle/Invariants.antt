use Rattle.std.proofs.Common.{ℕ, ◌<◌, ◌≢◌}
use Rattle.plane.specs.Geometry.{IsInTriangle}
use Rattle.triangulation_check.proofs.plain.is_empty_triangle.Given as goal

abbrev pub invariant-loop-s : goal.invariant-loop-s
invariant-loop-s l = (s : ℕ) → s < l.s → s ≢ l.p → s ≢ l.q → s ≢ l.r → ¬ IsInTriangle l.points l.p l.q l.r s
