use Rattle.std.proofs.Common.{arith}
use Rattle.hands.specs.Hands.{restamped}
use Rattle.hands.specs.Stars.{IsRestamped}
use Rattle.hands.proofs.Steps.{gone_all, mapped}
use Rattle.hands.proofs.stamps.restamp.Goals as goal

pub returns : goal.returns
returns c =
    let R = IsRestamped c.args.commit.now c.args.number in
    record { hands = mapped (restamped c.args.commit.now c.args.number) R c.args.hands.now c.loop-hand.hands (λ x y h. h) (gone_all R c.loop-hand.hand-index c.args.hands.now c.loop-hand.hands c.loop-hand.invariant (omega arith)) }
