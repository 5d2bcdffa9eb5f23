use Rattle.std.proofs.Common.{◌<◌, ◌+◌, ℕ, slice_index}
use Rattle.cp_judge.specs.Chains.{IsInside}
use Rattle.cp_judge.proofs.outline.has_sides.Given as goal

abbrev pub invariant-loop-i : goal.invariant-loop-i
invariant-loop-i l = (i : ℕ) → i < l.i → (slice_index l.chain i < slice_index l.chain (i + 1)) × IsInside l.points l.order l.chain l.side i
