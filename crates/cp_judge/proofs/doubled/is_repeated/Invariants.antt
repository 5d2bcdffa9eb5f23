use Rattle.std.proofs.Common.{◌<◌, ℕ}
use Rattle.crossings.specs.Crossings.{IsPairAt}
use Rattle.cp_judge.proofs.doubled.is_repeated.Given as goal

abbrev pub invariant-loop-j : goal.invariant-loop-j
invariant-loop-j l = (j : ℕ) → j < l.j → ¬ IsPairAt l.list j l.e
