use Rattle.std.proofs.Common.{arith}
use Rattle.cp_judge.proofs.Outlined.{indices_moved}
use Rattle.cp_judge.proofs.outline.set_order.Goals as goal

pub copy_indices-requires : goal.copy_indices-requires
copy_indices-requires c = let few = c.len-count.ensures.accepted.count.1 in omega (arith, few, c.requires)

pub returns : goal.returns
returns c = indices_moved c.args.points.now c.copy_indices.new.order c.sweep.new.order (omega (arith, c.requires)) (omega (arith, c.requires)) c.copy_indices.ensures c.sweep.ensures
