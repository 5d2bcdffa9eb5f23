use Rattle.std.proofs.Common.{arith, ◌∙◌}
use Rattle.seats.proofs.Tried.{late_none, lost_more, late_of, late_free, won_late, last_won, last_missed}
use Rattle.seats.proofs.shelf.Shelf.claim_journal.Goals as goal

pub loop-tries-init : goal.loop-tries-init
loop-tries-init c = late_none c.args.seat.now

pub try_journal-requires : goal.try_journal-requires
try_journal-requires c = record {
  of = late_of c.args.seat.now c.loop-tries.seat c.loop-tries.tries c.loop-tries.invariant ∙ c.requires.of;
  free = late_free c.args.seat.now c.loop-tries.seat c.loop-tries.tries c.loop-tries.invariant c.requires.free;
}

pub loop-tries-preserved : goal.loop-tries-preserved
loop-tries-preserved c = lost_more c.args.seat.now c.loop-tries.seat c.try_journal.new.seat c.loop-tries.tries c.try_journal.result c.loop-tries.invariant c.in_default.not-Ok c.try_journal.ensures.missed

pub returns-in-Ok-clause-won : goal.returns-in-Ok-clause-won
returns-in-Ok-clause-won c = won_late c.args.seat.now c.loop-tries.seat c.try_journal.new.seat c.loop-tries.tries _ c.loop-tries.invariant (let z = c.loop-tries-test.true in omega (arith, z)) c.in-Ok.ensures.won

-- the last try
pub returns-clause-won : goal.returns-clause-won
returns-clause-won c = last_won c.args.seat.now c.loop-tries.seat c.try_journal-2.new.seat c.loop-tries.tries c.try_journal-2.result c.loop-tries.invariant (let z = c.loop-tries.auto.tries-end in omega (arith, z)) c.try_journal-2.ensures.won

pub returns-clause-missed : goal.returns-clause-missed
returns-clause-missed c = last_missed c.args.seat.now c.loop-tries.seat c.try_journal-2.new.seat c.loop-tries.tries c.try_journal-2.result c.loop-tries.invariant (let z = c.loop-tries.auto.tries-end in let y = c.loop-tries-test.false in omega (arith, z, y)) c.try_journal-2.ensures.missed
