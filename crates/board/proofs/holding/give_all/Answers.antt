use Rattle.std.proofs.Common.{◌∙◌, ap, refl}
use Rattle.seats.specs.Seats.{SeatSeen}
use Rattle.board.proofs.Held.{last_left, last_held, one_given}
use Rattle.board.proofs.holding.give_all.Goals as goal

pub loop-look-init : goal.loop-look-init
loop-look-init c = (record { seat = ap (λ l. record c.args.seat.now { held = l }) c.requires.held; right = c.requires.right; stamped = c.requires.stamped }, refl, c.requires.seat)

pub give-requires : goal.give-requires
give-requires c =
    let i = c.loop-look.invariant in
    let x = last_left c.args.shelf.now c.args.seat.now c.loop-look.seat c.loop-look.hands.items c.pop.new.self.items c.in-Some.look i.0 c.in-Some.ensures.items in
    record {
      of = ap (λ (s : SeatSeen). s.of) i.0.seat ∙ c.requires.of;
      held = last_held c.args.shelf.now c.args.seat.now c.loop-look.seat c.pop.new.self.items c.in-Some.look x;
      right = x.right;
      stamped = x.stamped;
    }

pub loop-look-preserved : goal.loop-look-preserved
loop-look-preserved c =
    let i = c.loop-look.invariant in (
      one_given c.args.shelf.now c.args.seat.now c.loop-look.seat c.give.new.seat c.loop-look.hands.items c.pop.new.self.items c.in-Some.look i.0 c.in-Some.ensures.items c.give.ensures.latest,
      c.pop.ensures.capacity ∙ i.1,
      c.give.ensures.valid,
    )
