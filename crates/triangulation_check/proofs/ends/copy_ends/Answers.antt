use Rattle.std.proofs.Common.{arith}
use Rattle.triangulation_check.proofs.Copied.{two_more, all_copied, copied_to}
use Rattle.triangulation_check.proofs.ends.copy_ends.Goals as goal

pub loop-k-preserved : goal.loop-k-preserved
loop-k-preserved c =
    two_more c.args.list.now c.loop-k.ends c.loop-k.k c.index-list-k.result _ _ (omega arith) c.loop-k-test.true c.index-list-k.is
    (c.lo-i.ensures, c.hi-j.ensures) (c.hi-j.ensures, c.lo-i.ensures) c.loop-k.invariant

pub returns : goal.returns
returns c = all_copied c.args.list.now c.loop-k.ends (omega arith) (copied_to c.args.list.now c.loop-k.ends c.loop-k.k c.loop-k-test.false c.loop-k.invariant)
