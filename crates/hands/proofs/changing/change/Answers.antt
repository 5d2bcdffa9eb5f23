use Rattle.std.proofs.Common.{arith}
use Rattle.hands.specs.Hands.{hand_after}
use Rattle.hands.specs.Stars.{HasChanged}
use Rattle.hands.proofs.Steps.{can_change_now, gone_all, mapped, less_room}
use Rattle.hands.proofs.changing.change.Goals as goal

pub change_one-requires : goal.change_one-requires
change_one-requires c =
    can_change_now c.args.points.now c.requires.right.0 c.args.edit.now c.args.hands.now c.loop-hand.hands c.loop-hand.hand-index c.hand-item.result c.requires.right.1 c.requires.right.2 c.requires.right.3 c.requires.room c.loop-hand.invariant c.loop-hand-test.true

pub returns-clause-hands : goal.returns-clause-hands
returns-clause-hands c =
    let R = HasChanged c.args.points.now c.args.edit.now in
    mapped (hand_after c.args.points.now c.args.edit.now) R c.args.hands.now c.loop-hand.hands (λ x y h. h.hand) (gone_all R c.loop-hand.hand-index c.args.hands.now c.loop-hand.hands c.loop-hand.invariant (omega arith))

pub returns-clause-room : goal.returns-clause-room
returns-clause-room c =
    let R = HasChanged c.args.points.now c.args.edit.now in
    λ n room. less_room c.args.points.now c.args.edit.now c.args.hands.now c.loop-hand.hands n (gone_all R c.loop-hand.hand-index c.args.hands.now c.loop-hand.hands c.loop-hand.invariant (omega arith)) room
