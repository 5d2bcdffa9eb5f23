use Rattle.std.proofs.Common.{inl, arith}
use Rattle.subdivision.proofs.listing.add_wanted.Goals as goal

pub returns-in_ok-push : goal.returns-in_ok-push
returns-in_ok-push c = inl (c.requires, c.if-wanted.true, (c.of.result, omega (arith, c.of.ensures.lo, c.requires), omega (arith, c.of.ensures.hi, c.requires), c.in_ok-push.ensures.items))
