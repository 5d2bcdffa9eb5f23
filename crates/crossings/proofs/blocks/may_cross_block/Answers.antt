use Rattle.std.proofs.Common.{rules}
use Rattle.crossings.proofs.Apart.{none_beside}
use Rattle.crossings.proofs.blocks.may_cross_block.Goals as goal

pub returns-else-not-is_beside : goal.returns-else-not-is_beside
returns-else-not-is_beside c = λ f.
    none_beside 16 c.args.points.now c.args.list.now c.args.segments.now c.args.blocks.now c.args.i c.args.z c.requires.segments c.requires.boxes c.requires.i_in c.requires.z_of
    (c.is_beside.ensures (search rules))
