use Rattle.std.proofs.Common.{rules, refl, sym, subst}
use Rattle.std.specs.Prelude.{IfOk}
use Rattle.vertex_claims.specs.Holding.{ClaimsSeen}
use Rattle.edit.specs.declared.look.Look.{Look}
use Rattle.hands.specs.Hands.{hand_of}
use Rattle.seats.specs.declared.cells.Root.{Root}
use Rattle.seats.specs.Seats.{SeatSeen, ground_of}
use Rattle.seats.specs.Claimed.{IsMissed}
use Rattle.board.specs.Looks.{IsShown}
use Rattle.board.proofs.Seen.{unseen_missed, held_one, shown, hand_same}
use Rattle.board.proofs.board.Board.look.Goals.{in-Ok-copied, in-Err-copied}
use Rattle.board.proofs.board.Board.look.Goals as goal

pub returns-in-Err-clause-unseen : goal.returns-in-Err-clause-unseen
returns-in-Err-clause-unseen c =
    unseen_missed c.args.self.now c.args.pass.now c.claim.new.seat c.args.v c.in-Err.holder c.requires.of (search rules) (search rules)
    (subst (λ (z : SeatSeen). IsMissed z c.claim.new.seat c.args.v c.in-Err.holder) c.pass.view_is c.in-Err.ensures.missed)

pub returns-after-copied-clause-shown : goal.returns-after-copied-clause-shown
returns-after-copied-clause-shown c = elim c.match-copied.branch [
  | in-Ok-copied w ↦
      let copy : Look = record { star = w.in-Ok-copied.star; stamp = c.in-Ok.look.stamp } in
      subst (λ r. IfOk r (IsShown (ground_of c.args.self.now) c.args.pass.now c.give.new.seat c.args.v)) (sym w.result-is)
      (subst (λ (z : ClaimsSeen Root). IsShown (ground_of z) c.args.pass.now c.give.new.seat c.args.v copy) c.self.view_is
      (subst (λ (z : SeatSeen). IsShown (ground_of c.self.inside.shelf) z c.give.new.seat c.args.v copy) c.pass.view_is
      (shown c.self.inside.shelf c.pass.inside.seat c.claim.new.seat c.give.new.seat c.args.v c.in-Ok.look copy c.self.invariant (search rules) (search rules) c.in-Ok.ensures.won
      (c.give.ensures.latest _ (held_one c.pass.inside.seat c.claim.new.seat c.args.v (hand_of c.in-Ok.look) (search rules) c.in-Ok.ensures.won))
      (hand_same c.in-Ok.look copy w.in-Ok-copied.ensures.list w.in-Ok-copied.ensures.place.0 w.in-Ok-copied.ensures.place.1 refl))))
  | in-Err-copied w ↦ subst (λ r. IfOk r (IsShown (ground_of c.args.self.now) c.args.pass.now c.give.new.seat c.args.v)) (sym w.result-is) tt
]
