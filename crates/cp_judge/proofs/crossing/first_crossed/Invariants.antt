use Rattle.std.proofs.Common.{◌<◌, ℕ}
use Rattle.crossings.specs.Crossings.{DoCrossAt}
use Rattle.cp_judge.proofs.crossing.first_crossed.Given as goal

abbrev pub invariant-loop-b : goal.invariant-loop-b
invariant-loop-b l = (m : ℕ) → l.a < m → m < l.b → ¬ DoCrossAt l.points l.list l.a m
