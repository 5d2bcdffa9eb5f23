use Rattle.triangulation_check.proofs.Copied.{AreCopied}
use Rattle.triangulation_check.proofs.ends.copy_ends.Given as goal

abbrev pub invariant-loop-k : goal.invariant-loop-k
invariant-loop-k l = AreCopied l.list l.ends l.k
