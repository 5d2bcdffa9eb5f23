use Rattle.std.proofs.Common.{ℕ, ◌<◌}
use Rattle.triangulation_check.specs.Apexes.{IsJoined}
use Rattle.triangulation_check.proofs.joined.are_all_joined.Given as goal

abbrev pub invariant-loop-p : goal.invariant-loop-p
invariant-loop-p l = (p : ℕ) → p < l.p → IsJoined l.list p
