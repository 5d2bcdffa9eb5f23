use Rattle.std.proofs.Common.{rules}
use Rattle.crossings.proofs.Apart.{none_beside}
use Rattle.crossings.proofs.blocks.may_cross_group.Goals as goal

pub returns-else-not-is_beside : goal.returns-else-not-is_beside
returns-else-not-is_beside c = λ f.
    none_beside 256 c.args.points.now c.args.list.now c.args.segments.now c.args.groups.now c.args.g c.args.z c.requires.in_blocks.segments c.requires.in_blocks.group_boxes c.requires.g_in
    c.requires.z_of (c.is_beside.ensures (search rules))
