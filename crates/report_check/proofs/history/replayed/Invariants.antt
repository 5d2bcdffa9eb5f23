use Rattle.report_check.proofs.Journals.{HasTaken}
use Rattle.report_check.proofs.history.replayed.Given as goal

abbrev pub invariant-loop-k : goal.invariant-loop-k
invariant-loop-k l = HasTaken l.fn.core l.core l.commits l.k
