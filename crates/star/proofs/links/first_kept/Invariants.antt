use Rattle.std.proofs.Common.{◌<◌, ◌≤◌, ℕ}
use Rattle.star.specs.Gaps.{IsKept}
use Rattle.star.proofs.links.first_kept.Given as goal

abbrev pub invariant-loop-j : goal.invariant-loop-j
invariant-loop-j l = (m : ℕ) → l.from ≤ m → m < l.j → ¬ IsKept l.list m
