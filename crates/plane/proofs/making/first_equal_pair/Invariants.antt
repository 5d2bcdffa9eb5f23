use Rattle.std.proofs.Common.{◌≡◌, ◌<◌, ℕ, length}
use Rattle.plane.specs.Geometry.{point}
use Rattle.plane.proofs.making.first_equal_pair.Given as goal

abbrev pub invariant-loop-i : goal.invariant-loop-i
invariant-loop-i l = (i j : ℕ) → i < l.i → i < j → j < length l.list → ¬ (point l.list i ≡ point l.list j)
