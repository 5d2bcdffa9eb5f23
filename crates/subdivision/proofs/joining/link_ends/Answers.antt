use Rattle.std.proofs.Common.{arith}
use Rattle.subdivision.proofs.Growing.{free_at, free_after}
use Rattle.subdivision.proofs.joining.link_ends.Goals as goal

pub link-requires-clause-free : goal.link-requires-clause-free
link-requires-clause-free c = free_at c.args.stars.now c.lo.result c.args.pair.lo c.hi.result c.args.pair.hi _ c.lo.ensures c.hi.ensures (omega (arith, c.args.pair.ordered)) c.requires.lower

pub link-requires-2-clause-free : goal.link-requires-2-clause-free
link-requires-2-clause-free c =
    free_after c.args.stars.now c.lo.result c.hi-2.result c.args.pair.hi c.lo-2.result c.args.pair.lo _ _ c.hi-2.ensures c.lo-2.ensures (omega (arith, c.args.pair.ordered, c.lo.ensures)) (omega arith) c.requires.upper
