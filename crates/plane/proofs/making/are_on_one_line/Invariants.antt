use Rattle.std.proofs.Common.{◌≡◌, ◌<◌, ℕ, pos}
use Rattle.plane.specs.Geometry.{orientation}
use Rattle.plane.proofs.making.are_on_one_line.Given as goal

abbrev pub invariant-loop-k : goal.invariant-loop-k
invariant-loop-k l = (k : ℕ) → k < l.k → orientation l.list 0 1 k ≡ pos 0
