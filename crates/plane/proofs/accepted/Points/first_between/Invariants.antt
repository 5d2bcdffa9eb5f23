use Rattle.std.proofs.Common.{◌<◌, ℕ}
use Rattle.plane.specs.Geometry.{IsBetween}
use Rattle.plane.proofs.accepted.Points.first_between.Given as goal

abbrev pub invariant-loop-k : goal.invariant-loop-k
invariant-loop-k l = (k : ℕ) → k < l.k → ¬ IsBetween l.self k l.fn.e.lo l.fn.e.hi
