use Rattle.std.proofs.Common.{◌<◌, ℕ, length}
use Rattle.plane.specs.Geometry.{IsBetween}
use Rattle.price_defs.proofs.plain.is_alone.Given as goal

abbrev pub invariant-loop-q : goal.invariant-loop-q
invariant-loop-q l = (q : ℕ) → q < l.q → (r : ℕ) → r < length l.points → ¬ IsBetween l.points l.p q r
