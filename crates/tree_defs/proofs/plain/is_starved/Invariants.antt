use Rattle.std.proofs.Common.{◌<◌, ℕ}
use Rattle.tree_defs.specs.Leaves.{sets}
use Rattle.tree_defs.specs.Plain.{IsSpent}
use Rattle.tree_defs.proofs.plain.is_starved.Given as goal

abbrev pub invariant-loop-r : goal.invariant-loop-r
invariant-loop-r l = (r : ℕ) → r < l.r → IsSpent l.points (sets l.taken l.barred) l.p l.q r
