use Rattle.std.proofs.Common.{arith, ap, get_or}
use Rattle.star.specs.Stars.{Seen}
use Rattle.hands.specs.Hands.{hand_of}
use Rattle.hands.specs.Stars.{IsRoomier}
use Rattle.hands.proofs.Steps.{gone_all, same_hands, roomy, stopped_same}
use Rattle.hands.proofs.changing.reserve_all.Goals as goal

pub returns-in_err-reserve-clause-same : goal.returns-in_err-reserve-clause-same
returns-in_err-reserve-clause-same c =
    stopped_same 16 c.loop-hand.hand-index c.args.hands.now c.loop-hand.hands _ c.hand-item.result c.loop-hand.invariant c.loop-hand-test.true
    (ap (λ (star : Seen). hand_of (record { star = star; stamp = (get_or c.loop-hand.hands c.loop-hand.hand-index c.hand-item.result).stamp })) c.in_err-reserve.ensures.refused)

pub returns-clause-same : goal.returns-clause-same
returns-clause-same c =
    same_hands (IsRoomier 16) c.args.hands.now c.loop-hand.hands (λ x y h. h.hand) (gone_all (IsRoomier 16) c.loop-hand.hand-index c.args.hands.now c.loop-hand.hands c.loop-hand.invariant (omega arith))

pub returns-clause-room : goal.returns-clause-room
returns-clause-room c =
    roomy 16 (IsRoomier 16) c.args.hands.now c.loop-hand.hands (λ x y h. h.room) (gone_all (IsRoomier 16) c.loop-hand.hand-index c.args.hands.now c.loop-hand.hands c.loop-hand.invariant (omega arith))
