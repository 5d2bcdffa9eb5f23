use Rattle.bound_worker.proofs.Settled.{AreNoted}
use Rattle.bound_worker.proofs.raising.full_ends.Given as goal

abbrev pub invariant-loop-k : goal.invariant-loop-k
invariant-loop-k l = AreNoted l.points l.costs l.q l.k l.kept.rows l.ends.items
