use Rattle.std.proofs.Common.{rules, ◌∙◌, refl}
use Rattle.seats.proofs.Entry.{entered_seat, entered}
use Rattle.seats.proofs.shelf.Shelf.enter.Goals as goal

pub invariant_of-seat : goal.invariant_of-seat
invariant_of-seat c =
    entered c.seat.inside.holder c.seat.inside.share c.append-number.new.share c.seat.inside.caller c.seat.inside.made _ c.seat.invariant refl refl
    (c.as_slice-some.ensures.some, c.as_slice-some.ensures.few) (search rules) c.append-number.ensures.grown c.append-number.ensures.valid

pub returns-clause-entered : goal.returns-clause-entered
returns-clause-entered c = entered_seat c.seat.inside.holder c.seat.inside.share c.append-number.new.share _ c.append-number.ensures.grown ∙ (search rules)

pub returns-clause-valid : goal.returns-clause-valid
returns-clause-valid c = (invariant_of-seat c).seat
