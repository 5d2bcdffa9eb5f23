use Rattle.std.proofs.Common.{◌<◌, ◌+◌, ℕ, pos, ◌≤ℤ◌}
use Rattle.plane.specs.Geometry.{orientation}
use Rattle.cp_judge.specs.Chains.{sided, stop}
use Rattle.cp_judge.proofs.outline.has_bends.Given as goal

abbrev pub invariant-loop-i : goal.invariant-loop-i
invariant-loop-i l = (i : ℕ) → i < l.i → pos 0 ≤ℤ sided l.side (orientation l.points (stop l.order l.chain i) (stop l.order l.chain (i + 1)) (stop l.order l.chain (i + 1 + 1)))
