use Rattle.seats.specs.Claimed.{IsLate}
use Rattle.seats.proofs.shelf.Shelf.claim_journal.Given as goal

abbrev pub invariant-loop-tries : goal.invariant-loop-tries
invariant-loop-tries l = IsLate l.fn.seat l.seat l.tries
