use Rattle.std.proofs.Common.{◌*◌, ◌<◌, ℕ}
use Rattle.generator.proofs.lists.side_of.Given as goal

abbrev pub invariant-loop-m : goal.invariant-loop-m
invariant-loop-m l = (j : ℕ) → j < l.m → j * j < l.n
