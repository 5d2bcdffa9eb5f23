use Rattle.std.proofs.Common.{◌<◌, ℕ, length}
use Rattle.crossings.specs.Crossings.{DoCrossAt}
use Rattle.cp_judge.proofs.crossing.first_crossing.Given as goal

abbrev pub invariant-loop-a : goal.invariant-loop-a
invariant-loop-a l = (k m : ℕ) → k < l.a → k < m → m < length l.list → ¬ DoCrossAt l.points l.list k m
