use Rattle.std.proofs.Common.{arith}
use Rattle.crossings.proofs.Apart.{none_of_segments}
use Rattle.crossings.proofs.blocks.may_cross.Goals as goal

pub returns : goal.returns
returns c = λ f.
    none_of_segments c.args.points.now c.args.list.now c.args.segments.now c.args.z.place _ c.requires.in_blocks.segments c.requires.in_blocks.group_room
    (λ k below l. c.loop-g.invariant k (omega arith) l)
