use Rattle.std.proofs.Common.{ℕ, ◌<◌}
use Rattle.partition_defs.specs.Triangulation.{IsApex}
use Rattle.triangulation_check.proofs.plain.has_apex.Given as goal

abbrev pub invariant-loop-r : goal.invariant-loop-r
invariant-loop-r l = (r : ℕ) → r < l.r → ¬ IsApex l.points l.list l.p l.q r
