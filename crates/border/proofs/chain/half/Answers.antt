use Rattle.std.proofs.Common.{arith}
use Rattle.border.specs.Chain.{seen_at}
use Rattle.border.proofs.Growing.{lengthened}
use Rattle.border.proofs.Halves.{rising_of, turn_unseen}
use Rattle.border.proofs.chain.half.Goals as goal

pub loop-k-preserved : goal.loop-k-preserved
loop-k-preserved c =
    lengthened (seen_at c.args.points.now c.args.forward c.args.order.now) c.loop-k.k c.shorten.new.chain.items c.push-in-loop-k.new.self.items
    (rising_of c.args.points.now c.args.forward c.args.order.now c.loop-k.k c.requires (omega arith)) c.shorten.ensures.reach
    (λ t. c.shorten.ensures.bent (turn_unseen c.args.points.now c.args.forward c.args.order.now c.shorten.new.chain.items c.loop-k.k t)) c.in_ok-push-2.ensures.items
