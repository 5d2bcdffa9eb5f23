use Rattle.std.proofs.Common.{◌≡◌, ◌<◌, ℕ}
use Rattle.plane.specs.Geometry.{point}
use Rattle.plane.proofs.making.next_equal.Given as goal

abbrev pub invariant-loop-j : goal.invariant-loop-j
invariant-loop-j l = (j : ℕ) → l.i < j → j < l.j → ¬ (point l.list l.i ≡ point l.list j)
