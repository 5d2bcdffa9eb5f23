use Rattle.std.proofs.Common.{◌<◌, ℕ}
use Rattle.plane.specs.Geometry.{IsBetween}
use Rattle.price_defs.proofs.plain.is_alone_with.Given as goal

abbrev pub invariant-loop-r : goal.invariant-loop-r
invariant-loop-r l = (r : ℕ) → r < l.r → ¬ IsBetween l.points l.p l.q r
